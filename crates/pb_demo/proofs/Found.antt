-- The laws, from what is found of each program.
use Rattle.std.proofs.Common.{◌≡◌, subst, ℕ, zero, suc, ◌≤◌, List, Ok}
use Rattle.pb_linear.specs.declared.sizes.TheConstants.{SIZE_TOP}
use Rattle.pb_program.specs.Configs.{ConfigValue}
use Rattle.pb_program.specs.Trees.{ProgTransform}
use Rattle.pb_program.specs.WellFormed.{IsWellFormed}
use Rattle.pb_check.specs.Accepting.{IsTextAccepted}
use Rattle.pb_check.proofs.AcceptLemmas.{one_program}
use Rattle.pb_config.specs.Reading.{config_read}
use Rattle.pb_gen.specs.Examples.{example_of}
use Rattle.pb_gen.specs.Texts.{text_of}
use Rattle.pb_demo.specs.Demonstrations.{Takes, demo_config, demo_transform}
use Rattle.pb_demo.proofs.Accepted.{multiply_accepted, roll_accepted, well_formed}
use Rattle.pb_demo.proofs.Configs.{multiply_config, roll_config}
use Rattle.pb_demo.proofs.Entries.{multiply_bound, multiply_enters, multiply_there, roll_bound, roll_enters, roll_there}
use Rattle.pb_demo.proofs.Product.{multiply}
use Rattle.pb_demo.proofs.Sound.{roll}
use Rattle.pb_demo.proofs.Trees.{program}

pub accepted : (which : ℕ) → (p : List ProgTransform) × IsTextAccepted (text_of which) p
accepted zero = (program 0, multiply_accepted)
accepted (suc n) = (program 1, roll_accepted)

same : (text : List ℕ) (p q : List ProgTransform) → IsTextAccepted text p → IsTextAccepted text q → p ≡ q
same text p q a b = one_program text p q a b

pub valid : (which : ℕ) (p : List ProgTransform) → IsTextAccepted (text_of which) p → (config : ConfigValue) × (config_read p (demo_config which) ≡ Ok config)
valid zero p a = subst (λ q. (config : ConfigValue) × (config_read q (demo_config 0) ≡ Ok config)) (same (text_of 0) (program 0) p multiply_accepted a) multiply_config
valid (suc n) p a = subst (λ q. (config : ConfigValue) × (config_read q (demo_config 1) ≡ Ok config)) (same (text_of 1) (program 1) p roll_accepted a) roll_config

pub takes : (which seed size : ℕ) (p : List ProgTransform) → IsTextAccepted (text_of which) p → 1 ≤ size → size ≤ SIZE_TOP → Takes p (demo_transform which) (example_of which seed size)
takes zero seed size p a some few =
    subst (λ q. Takes q (demo_transform 0) (example_of 0 seed size)) (same (text_of 0) (program 0) p multiply_accepted a)
    (record { number = 1; transform = multiply; enters = multiply_enters seed size; there = multiply_there; sizes = _; bound = multiply_bound seed size some few })
takes (suc n) seed size p a some few =
    subst (λ q. Takes q (demo_transform 1) (example_of 1 seed size)) (same (text_of 1) (program 1) p roll_accepted a)
    (record { number = 0; transform = roll; enters = roll_enters seed size; there = roll_there; sizes = _; bound = roll_bound seed size some few })

-- an accepted text is a well-formed program
pub formed : (text : List ℕ) (p : List ProgTransform) → IsTextAccepted text p → IsWellFormed p
formed text p a = well_formed text a.tree p a.read a.resolved

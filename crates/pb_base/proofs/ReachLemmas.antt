-- Laws of what links lead to.
use Rattle.pb_base.specs.Reach.{Reach, Together}
use Rattle.pb_base.specs.Reach.Reach.{here, along}

module _ {N : Type 0} (Leads : N → N → Type 0) where
  pub reach-link : (u v : N) → Leads u v → Reach N Leads u v
  reach-link u v l = along l here

  pub reach-trans : (u v w : N) → Reach N Leads u v → Reach N Leads v w → Reach N Leads u w
  reach-trans u v w here q = q
  reach-trans u v w (along l p) q = along l (reach-trans _ v w p q)

  -- what a link keeps forwards, the whole way keeps
  pub reach-keeps : (P : N → Type 0) → ((u v : N) → Leads u v → P u → P v) → (u v : N) → Reach N Leads u v → P u → P v
  reach-keeps P step u v here h = h
  reach-keeps P step u v (along l p) h = reach-keeps P step _ v p (step _ _ l h)

  -- and what it keeps backwards
  pub reach-keeps_back : (P : N → Type 0) → ((u v : N) → Leads u v → P v → P u) → (u v : N) → Reach N Leads u v → P v → P u
  reach-keeps_back P step u v here h = h
  reach-keeps_back P step u v (along l p) h = step _ _ l (reach-keeps_back P step _ v p h)

  pub together-refl : (u : N) → Together Leads u u
  together-refl u = (here, here)

  pub together-sym : (u v : N) → Together Leads u v → Together Leads v u
  together-sym u v p = (p.1, p.0)

  pub together-trans : (u v w : N) → Together Leads u v → Together Leads v w → Together Leads u w
  together-trans u v w p q = (reach-trans u v w p.0 q.0, reach-trans w v u q.1 p.1)

-- links that are links of another kind lead to the same
pub reach-map : {N : Type 0} (Leads Other : N → N → Type 0) → ((u v : N) → Leads u v → Other u v) → (u v : N) → Reach N Leads u v → Reach N Other u v
reach-map Leads Other f u v here = here
reach-map Leads Other f u v (along l p) = along (f _ _ l) (reach-map Leads Other f _ v p)

-- turned links lead back
pub reach-turned : {N : Type 0} (Leads Turned : N → N → Type 0) → ((u v : N) → Turned u v → Leads v u) → (u v : N) → Reach N Turned u v → Reach N Leads v u
reach-turned Leads Turned f u v here = here
reach-turned Leads Turned f u v (along l p) = reach-trans Leads v _ u (reach-turned Leads Turned f _ v p) (reach-link Leads _ u (f _ _ l))

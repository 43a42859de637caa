-- The table from cells to tasks.
use Rattle.std.proofs.Common.{◌≡◌, ◌∙◌, sym, ap, subst, ⊎_elim, ℕ, ◌<◌, ◌≤◌, ◌+◌, ◌-◌, List, length, get_or, arith}
use Rattle.std.specs.List.{All, Contains, flat_map}
use Rattle.std.proofs.lemmas.Bool.{cases_eq}
use Rattle.std.proofs.lemmas.List.{get_or_read}
use Rattle.std.proofs.lemmas.List.Elements.{Contains-get_or}
use Rattle.pb_values.specs.Views.{view_cells}
use Rattle.pb_taskgraph.specs.declared.task.Part.{Part}
use Rattle.pb_taskgraph.specs.Graphs.{GraphValue, IsPartition, TaskValue, cells_of}
use Rattle.pb_taskgraph.specs.Owners.{HasEntry, HasOwners, IsHeld, filled}
use Rattle.pb_taskgraph.proofs.GraphLemmas.{cells-at}
use Rattle.pb_taskgraph.proofs.OwnerLemmas.{filled-in, filled-out, length-filled}

abbrev parts_cells : List Part → List ℕ
parts_cells parts = flat_map (λ (part : Part). view_cells part.view) parts

module _ (g : GraphValue) (p : IsPartition g) (t : ℕ) (task : TaskValue) (below : t < length g.tasks) (is : task ≡ get_or g.tasks t task) (parts : List Part) (same : parts ≡ task.parts) (owners : List ℕ) (h : HasOwners g t owners) where
  cells : cells_of g t ≡ parts_cells parts
  cells = cells-at g t task below is ∙ ap parts_cells (sym same)

  pub cells-inside : All (HasEntry g.inputs (length owners)) (parts_cells parts)
  cells-inside k d inside =
      let cell = get_or (parts_cells parts) k d in
      let past = p.past t cell (subst (λ cs. Contains cs cell) (sym cells) (Contains-get_or (parts_cells parts) k d inside)) in
      (past.0, omega (arith, h.room, past.0, past.1))

  pub table-more : (new : List ℕ) → new ≡ filled g.inputs owners (parts_cells parts) t → HasOwners g (t + 1) new
  table-more new is_filled = record { room = ap length is_filled ∙ length-filled g.inputs t (parts_cells parts) owners ∙ h.room; owner = at }
    where
      at : (u c : ℕ) → u < t + 1 → Contains (cells_of g u) c → get_or new (c - g.inputs) 0 ≡ u
      at u c before has =
          let past = p.past u c has in
          ap (λ l. get_or l (c - g.inputs) 0) is_filled
          ∙ ⊎_elim
          (λ (own : u ≡ t). filled-in g.inputs t (parts_cells parts) owners c 0 (subst (λ cs. Contains cs c) (ap (cells_of g) own ∙ cells) has) (omega (arith, h.room, past.0, past.1)) ∙ sym own)
          (λ (other : u ≡ t → ⊥). filled-out g.inputs t (parts_cells parts) owners c 0 (λ k d inside. (cells-inside k d inside).0) past.0 (λ inside. other (p.one u t c has (subst (λ cs. Contains cs c) (sym cells) inside))) ∙ h.owner u c (omega arith) has)
          (cases_eq u t)

-- what the table names is the task of a cell
pub owner-is : (g h : GraphValue) (owners : List ℕ) (c owner : ℕ) → g ≡ h → IsHeld g owners → h.inputs ≤ c → c < h.cells → owner ≡ get_or owners (c - g.inputs) owner → (owner < length h.tasks) × Contains (cells_of h owner) c
owner-is g h owners c owner same held_g past below read =
    let held = subst (λ k. IsHeld k owners) same held_g in
    let there = held.graph.partition.some c past below in
    let is : owner ≡ there.0 = get_or_read owners (c - h.inputs) owner (omega (arith, held.table.room)) (read ∙ ap (λ (k : GraphValue). get_or owners (c - k.inputs) owner) same) 0 ∙ held.table.owner there.0 c there.1 there.2 in
    subst (λ t. (t < length h.tasks) × Contains (cells_of h t) c) (sym is) (there.1, there.2)

-- Rows of tests that are made once.
use Rattle.std.proofs.Common.{◌≡◌, ◌∙◌, refl, sym, ap, subst, ◌⊎◌, inl, inr, ⊎_elim, ℕ, zero, suc, ◌+◌, ◌<◌, ◌≤◌, Bool, true, false, ◌&&◌, not, List, [], ◌∷◌, ◌++◌, length, map, take, get_or, slice_get, Some, ℤ, pos, ◌*ℤ◌, arith}
use Rattle.std.specs.Prelude.{◌==◌}
use Rattle.std.specs.List.{All, Contains}
use Rattle.std.proofs.lemmas.Bool.{cases_lt}
use Rattle.std.proofs.lemmas.Int.{ints}
use Rattle.std.proofs.lemmas.List.{get_or_append_left, get_or-map, get_or-take, length-append, length-map, length-take-le, take_more}
use Rattle.std.proofs.lemmas.Option.{get_or_from_slice_get, slice_get-get_or}
use Rattle.std.proofs.Math.Seq.{get_or-append_seam}
use Rattle.std.proofs.Math.IntN.{zero-*ℤ}
use Rattle.pb_linear.proofs.SameForms.{Form-same}
use Rattle.pb_linear.proofs.SizesLemmas.{le_everywhere-difference}
use Rattle.pb_linear.specs.declared.boxes.ReadBox.{ReadBox}
use Rattle.pb_linear.specs.declared.form.Form.{Form}
use Rattle.pb_linear.specs.declared.vform.SymBox.{SymBox}
use Rattle.pb_linear.specs.declared.vform.VForm.{VForm}
use Rattle.pb_graph.specs.Cached.{AreAlike, AreFirsts, AreRows, AreRowsOf, AreSame, IsRow, RowValue, RowsValue, both, near_on}
use Rattle.pb_graph.specs.Edges.{apart, lower_end, span, upper_end}
use Rattle.pb_graph.specs.Expressions.{Expression, end_for, holds, minus, of_form, of_vform, worst}
use Rattle.pb_graph.specs.Nodes.{NodeValue}
use Rattle.pb_graph.specs.Rows.{row}

pub same_form : (a b : Form) → a.constant ≡ b.constant → a.whole ≡ b.whole → a.half ≡ b.half → a.third ≡ b.third → a.quarter ≡ b.quarter → a ≡ b
same_form a b k w h t q = Form-same a b (record { constant = k; whole = w; half = h; third = t; quarter = q })

-- ---- areas that a read is shown alike
pub alike : (r : ReadBox) (axis : ℕ) (a b : SymBox) (low high : VForm) → of_vform low ≡ (span axis r).low → of_vform high ≡ (span axis r).high →
    ((low.x ≡ pos 0) × (high.x ≡ pos 0)) ⊎ ((a.x0 ≡ b.x0) × (a.x1 ≡ b.x1)) → ((low.y ≡ pos 0) × (high.y ≡ pos 0)) ⊎ ((a.y0 ≡ b.y0) × (a.y1 ≡ b.y1)) → AreAlike r axis a b
alike r axis a b low high l h x y = record {
  on_x = ⊎_elim (λ z. inl (sym (ap (λ e. e.x) l) ∙ z.0, sym (ap (λ e. e.x) h) ∙ z.1)) (λ e. inr e) x;
  on_y = ⊎_elim (λ z. inl (sym (ap (λ e. e.y) l) ∙ z.0, sym (ap (λ e. e.y) h) ∙ z.1)) (λ e. inr e) y;
}

-- a variable with the coefficient 0 adds nothing, and the same ends add the same
same_term : (k : ℤ) (a0 a1 b0 b1 : Form) (sizes : List ℕ) → (k ≡ pos 0) ⊎ ((a0 ≡ b0) × (a1 ≡ b1)) → k *ℤ end_for k a0 a1 sizes ≡ k *ℤ end_for k b0 b1 sizes
same_term k a0 a1 b0 b1 sizes (inl none) = ap (λ z. z *ℤ end_for k a0 a1 sizes) none ∙ zero-*ℤ (end_for k a0 a1 sizes) ∙ sym (ap (λ z. z *ℤ end_for k b0 b1 sizes) none ∙ zero-*ℤ (end_for k b0 b1 sizes))
same_term k a0 a1 b0 b1 sizes (inr same) = ap (λ f. k *ℤ end_for k f a1 sizes) same.0 ∙ ap (λ f. k *ℤ end_for k b0 f sizes) same.1

holds_alike : (leasts : List ℕ) (a b : SymBox) (e : Expression) → (e.x ≡ pos 0) ⊎ ((a.x0 ≡ b.x0) × (a.x1 ≡ b.x1)) → (e.y ≡ pos 0) ⊎ ((a.y0 ≡ b.y0) × (a.y1 ≡ b.y1)) → holds leasts a e ≡ holds leasts b e
unfolding holds
holds_alike leasts a b e x y =
    le_everywhere-difference leasts (worst e b) (λ _. pos 0) (worst e a) (λ sizes. omega (arith, ints, same_term e.x a.x0 a.x1 b.x0 b.x1 sizes x, same_term e.y a.y0 a.y1 b.y0 b.y1 sizes y))

module _ (leasts : List ℕ) (r : ReadBox) (axis : ℕ) where
  same_apart : (a b : SymBox) (other : SymBox) → AreAlike r axis a b → apart leasts a r other axis ≡ apart leasts b r other axis
  same_apart a b other h =
      let low = (span axis r).low in
      let high = (span axis r).high in
      let above = holds_alike leasts a b (minus high (of_form (lower_end axis other))) (⊎_elim (λ z. inl (omega (arith, ints, z.1))) (λ e. inr e) h.on_x) (⊎_elim (λ z. inl (omega (arith, ints, z.1))) (λ e. inr e) h.on_y) in
      let below = holds_alike leasts a b (minus (of_form (upper_end axis other)) low) (⊎_elim (λ z. inl (omega (arith, ints, z.0))) (λ e. inr e) h.on_x) (⊎_elim (λ z. inl (omega (arith, ints, z.0))) (λ e. inr e) h.on_y) in
      rw (above, below) refl

  near_alike : (a b : SymBox) (source : NodeValue) → AreAlike r axis a b → near_on leasts r axis a source ≡ near_on leasts r axis b source
  near_alike a b source h = ap (λ t. (r.matrix == source.matrix) && not t) (same_apart a b source.area h)

  near_same : (a : SymBox) (u v : NodeValue) → AreSame axis u v → near_on leasts r axis a u ≡ near_on leasts r axis a v
  near_same a u v h = rw (h.matrix, h.lower, h.upper) refl

  pub row_alike : (a b : SymBox) (nodes : List NodeValue) → AreAlike r axis a b → map (near_on leasts r axis a) nodes ≡ map (near_on leasts r axis b) nodes
  row_alike a b [] h = refl
  row_alike a b (source ∷ nodes) h = rw (near_alike a b source h, row_alike a b nodes h) refl

-- ---- segments with the same ends
abbrev IsFirst : ℕ → List NodeValue → ℕ → NodeValue → ℕ → Type 0
IsFirst axis nodes k v first = (first ≡ k) ⊎ ((u : NodeValue) × (first < k) × (slice_get nodes first ≡ Some u) × AreSame axis u v)

module _ (axis : ℕ) (nodes : List NodeValue) (fs gs : List ℕ) (x : ℕ) (found : AreFirsts axis nodes fs) (pushed : gs ≡ fs ++ x ∷ []) where
  pub firsts_more : ((v : NodeValue) → slice_get nodes (length fs) ≡ Some v → IsFirst axis nodes (length fs) v x) → AreFirsts axis nodes gs
  firsts_more last k v below at = ⊎_elim
      (λ old. subst (IsFirst axis nodes k v) (sym (ap (λ l. get_or l k 0) pushed ∙ get_or_append_left fs (x ∷ []) 0 k old)) (found k v old at))
      (λ over.
      let here : k ≡ length fs = omega (arith, ap length pushed, length-append fs (x ∷ [])) in
      let is : get_or gs k 0 ≡ x = ap (λ l. get_or l k 0) pushed ∙ ap (λ n. get_or (fs ++ x ∷ []) n 0) here ∙ get_or-append_seam fs x [] 0 in
      subst (IsFirst axis nodes k v) (sym is) (subst (λ n. IsFirst axis nodes n v x) (sym here) (last v (subst (λ n. slice_get nodes n ≡ Some v) here at))))
      (cases_lt k (length fs))

  pub firsts_known : (n : ℕ) (node : NodeValue) → length fs ≡ n → n < length nodes → node ≡ get_or nodes n node → x < n → AreSame axis (get_or nodes x node) node → AreFirsts axis nodes gs
  firsts_known n node room below is low same =
      firsts_more (λ v at. inr (get_or nodes x node, omega arith, slice_get-get_or nodes x node (omega arith), subst (AreSame axis (get_or nodes x node)) (some_is node v (sym (slice_get-get_or nodes n node below ∙ ap Some (sym is)) ∙ subst (λ k. slice_get nodes k ≡ Some v) room at)) same))
    where
      some_is : (a b : NodeValue) → Some a ≡ Some b → a ≡ b
      some_is a b e = cc

  pub firsts_new : (n : ℕ) → length fs ≡ n → x ≡ n → AreFirsts axis nodes gs
  firsts_new n room is = firsts_more (λ v at. inl (is ∙ sym room))

-- the test of an earlier segment with the same ends
pub near_first : (leasts : List ℕ) (nodes : List NodeValue) (r : ReadBox) (axis : ℕ) (a : SymBox) (firsts : List ℕ) (row : List Bool) (n : ℕ) (d : Bool) (node : NodeValue) →
    AreFirsts axis nodes firsts → n < length firsts → n < length nodes → node ≡ get_or nodes n node → get_or firsts n 0 < n → row ≡ map (near_on leasts r axis a) (take n nodes) → get_or row (get_or firsts n 0) d ≡ near_on leasts r axis a node
near_first leasts nodes r axis a firsts row n d node are below inside is low inv = ⊎_elim
    (λ same. absurd (omega arith))
    (λ u.
    let first : ℕ = get_or firsts n 0 in
    let there : get_or (take n nodes) first u.0 ≡ u.0 = get_or-take n nodes first u.0 low ∙ get_or_from_slice_get nodes first u.0 u.0 u.2 in
    ap (λ l. get_or l first d) inv ∙ get_or-map (near_on leasts r axis a) (take n nodes) first u.0 d (omega (arith, length-take-le n nodes (omega arith))) ∙ ap (near_on leasts r axis a) there ∙ near_same leasts r axis a u.0 node u.3)
    (are n node below (slice_get-get_or nodes n node inside ∙ ap Some (sym is)))

-- ---- both tests
both_more : (xs ys : List Bool) (k : ℕ) (d e : Bool) → k < length xs → k < length ys → both (take (k + 1) xs) (take (k + 1) ys) ≡ both (take k xs) (take k ys) ++ (get_or xs k d && get_or ys k e) ∷ []
both_more [] ys k d e h i = absurd (omega arith)
both_more (x ∷ xs) [] k d e h i = absurd (omega arith)
both_more (x ∷ xs) (y ∷ ys) zero d e h i = refl
both_more (x ∷ xs) (y ∷ ys) (suc k) d e h i = let next : suc k + 1 ≡ suc (k + 1) = omega arith in rw next (ap (λ l. (x && y) ∷ l) (both_more xs ys k d e (omega arith) (omega arith)))

pub both_pushed : (xs ys : List Bool) (k : ℕ) (d e : Bool) → k < length xs → k < length ys → (l m : List Bool) (b : Bool) → l ≡ both (take k xs) (take k ys) → m ≡ l ++ b ∷ [] → b ≡ (get_or xs k d && get_or ys k e) → m ≡ both (take (k + 1) xs) (take (k + 1) ys)
both_pushed xs ys k d e h i l m b inv pushed is =
    pushed ∙ ap (λ z. z ++ b ∷ []) inv ∙ ap (λ t. both (take k xs) (take k ys) ++ t ∷ []) is ∙ sym (both_more xs ys k d e h i)

pub both_end : (xs ys : List Bool) (k : ℕ) → length xs ≤ k → both (take k xs) (take k ys) ≡ both xs ys
both_end [] ys zero h = refl
both_end [] ys (suc k) h = refl
both_end (x ∷ xs) ys zero h = absurd (omega arith)
both_end (x ∷ xs) [] (suc k) h = refl
both_end (x ∷ xs) (y ∷ ys) (suc k) h = ap (λ l. (x && y) ∷ l) (both_end xs ys k (omega arith))

and_split : (m a b : Bool) → ((m && a) && (m && b)) ≡ (m && (a && b))
and_split true a b = refl
and_split false a b = refl

both_rows : (leasts : List ℕ) (nodes : List NodeValue) (r : ReadBox) (a : SymBox) → both (map (near_on leasts r 0 a) nodes) (map (near_on leasts r 1 a) nodes) ≡ row leasts nodes a r
both_rows leasts [] r a = refl
both_rows leasts (v ∷ nodes) r a = rw (and_split (r.matrix == v.matrix) (not (apart leasts a r v.area 0)) (not (apart leasts a r v.area 1)), both_rows leasts nodes r a) refl

pub both_are : (leasts : List ℕ) (nodes : List NodeValue) (r : ReadBox) (a : SymBox) (x y : List Bool) → x ≡ map (near_on leasts r 0 a) nodes → y ≡ map (near_on leasts r 1 a) nodes → both x y ≡ row leasts nodes a r
both_are leasts nodes r a x y ex ey = ap (λ l. both l y) ex ∙ ap (both (map (near_on leasts r 0 a) nodes)) ey ∙ both_rows leasts nodes r a

-- ---- rows of all reads
pub rows_more : (leasts : List ℕ) (nodes : List NodeValue) (reads : List ReadBox) (rows : List RowsValue) (r : ReadBox) (w : RowsValue) → AreRows leasts nodes reads rows → AreRowsOf leasts nodes r w → AreRows leasts nodes (reads ++ r ∷ []) (rows ++ w ∷ [])
rows_more leasts nodes [] [] r w are is = (is, tt)
rows_more leasts nodes [] (v ∷ rows) r w are is = absurd are
rows_more leasts nodes (q ∷ reads) [] r w are is = absurd are
rows_more leasts nodes (q ∷ reads) (v ∷ rows) r w are is = (are.0, rows_more leasts nodes reads rows r w are.1 is)

pub rows_room : (leasts : List ℕ) (nodes : List NodeValue) (reads : List ReadBox) (rows : List RowsValue) → AreRows leasts nodes reads rows → length rows ≡ length reads
rows_room leasts nodes [] [] are = refl
rows_room leasts nodes [] (v ∷ rows) are = absurd are
rows_room leasts nodes (q ∷ reads) [] are = absurd are
rows_room leasts nodes (q ∷ reads) (v ∷ rows) are = ap suc (rows_room leasts nodes reads rows are.1)

rows_at : (leasts : List ℕ) (nodes : List NodeValue) (reads : List ReadBox) (rows : List RowsValue) (k : ℕ) (d : ReadBox) (e : RowsValue) → AreRows leasts nodes reads rows → k < length reads → AreRowsOf leasts nodes (get_or reads k d) (get_or rows k e)
rows_at leasts nodes [] rows k d e are below = absurd (omega arith)
rows_at leasts nodes (q ∷ reads) [] k d e are below = absurd are
rows_at leasts nodes (q ∷ reads) (v ∷ rows) zero d e are below = are.0
rows_at leasts nodes (q ∷ reads) (v ∷ rows) (suc k) d e are below = rows_at leasts nodes reads rows k d e are.1 (omega arith)

pub low_in : (among distinct : List ℕ) (n x : ℕ) → among ≡ distinct → All (λ k. k < n) distinct → Contains among x → x < n
low_in among distinct n x same low h = let at = h.1 in omega (arith, low h.0 x (omega (arith, ap length same)), ap (λ l. get_or l h.0 x) same, h.2)

pub rows_next : (leasts : List ℕ) (nodes : List NodeValue) (reads : List ReadBox) (rows more : List RowsValue) (i : ℕ) (d : ReadBox) (w : RowsValue) → i < length reads → AreRows leasts nodes (take i reads) rows → AreRowsOf leasts nodes (get_or reads i d) w → more ≡ rows ++ w ∷ [] → AreRows leasts nodes (take (i + 1) reads) more
rows_next leasts nodes reads rows more i d w below are is pushed =
    subst (AreRows leasts nodes (take (i + 1) reads)) (sym pushed) (subst (λ rs. AreRows leasts nodes rs (rows ++ w ∷ [])) (sym (take_more reads i d below)) (rows_more leasts nodes (take i reads) rows (get_or reads i d) w are is))

-- rows that are known, as they are read
pub near_known : (leasts : List ℕ) (nodes : List NodeValue) (r : ReadBox) (axis : ℕ) (a : SymBox) (found rows : List RowValue) (near : List Bool) → found ≡ rows → All (IsRow leasts nodes r axis) rows →
    ((leasts : List ℕ) (nodes : List NodeValue) → All (IsRow leasts nodes r axis) found → near ≡ map (near_on leasts r axis a) nodes) → near ≡ map (near_on leasts r axis a) nodes
near_known leasts nodes r axis a found rows near same are told = told leasts nodes (subst (All (IsRow leasts nodes r axis)) (sym same) are)

pub same_length : {A B : Type 0} (f g : A → B) (xs : List A) (x y : List B) → x ≡ map f xs → y ≡ map g xs → length x ≡ length y
same_length f g xs x y ex ey = let e : length (map f xs) ≡ length (map g xs) = simp length-map in ap length ex ∙ e ∙ sym (ap length ey)

pub rows_read : (leasts : List ℕ) (nodes : List NodeValue) (reads : List ReadBox) (rows : List RowsValue) (k : ℕ) (r : ReadBox) (w : RowsValue) → AreRows leasts nodes reads rows → k < length reads → r ≡ get_or reads k r → w ≡ get_or rows k w → AreRowsOf leasts nodes r w
rows_read leasts nodes reads rows k r w are below is_r is_w =
    subst (λ q. AreRowsOf leasts nodes q w) (sym is_r) (subst (AreRowsOf leasts nodes (get_or reads k r)) (sym is_w) (rows_at leasts nodes reads rows k r w are below))

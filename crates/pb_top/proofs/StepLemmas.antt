-- Steps one after the other.
use Rattle.std.proofs.Common.{◌≡◌, ℕ, suc, ◌+◌, ◌<◌, ◌≤◌, List, [], ◌∷◌, ◌++◌, length, drop, Option, Some, None, IsSomeAnd, Result, Ok, Err, Vec, inl, inr, refl, sym, ap, subst, ◌∙◌, append_assoc, append-nil, arith}
use Rattle.std.specs.declared.alloc.Global.{Global}
use Rattle.std.proofs.lemmas.Bool.{cases_lt}
use Rattle.std.proofs.lemmas.List.{drop_all}
use Rattle.pb_outside.specs.Shelf.{Files, content_of}
use Rattle.pb_top.specs.Reply.{Reply, done_reply, no_file, file_too_long}
use Rattle.pb_top.specs.Steps.{Each, Then, TakesFile, Takes}
use Rattle.pb_top.specs.Working.{StopsWith, Replies, Writes}
use Rattle.pb_top.specs.declared.reply.Stop.{Stop}
use Rattle.pb_top.specs.declared.reply.Stop.TheVariants.{Memory, Refused, Unread}

-- steps with at most one outcome have at most one together
pub then_one : {A : Type 0} (Step : Result A Reply → Type 0) (next : A → Reply → Type 0) → ((x y : Result A Reply) → Step x → Step y → x ≡ y)
    → ((a : A) (x y : Reply) → next a x → next a y → x ≡ y) → (x y : Reply) → Then Step next x → Then Step next y → x ≡ y
then_one Step next one each x y (inl (a, step, more)) (inl (b, other, rest)) =
    let same = one (Ok a) (Ok b) step other in
    let is : a ≡ b = cc in
    each b x y (subst (λ a. next a x) is more) rest
then_one Step next one each x y (inl (a, step, more)) (inr stop) = let same = one (Ok a) (Err y) step stop in cc
then_one Step next one each x y (inr stop) (inl (b, other, rest)) = let same = one (Err x) (Ok b) stop other in cc
then_one Step next one each x y (inr stop) (inr other) = let same = one (Err x) (Err y) stop other in cc

-- the same where what follows rests on what the step gives
pub then_one_given : {A : Type 0} (Step : Result A Reply → Type 0) (next : A → Reply → Type 0) → ((x y : Result A Reply) → Step x → Step y → x ≡ y)
    → ((a : A) → Step (Ok a) → (x y : Reply) → next a x → next a y → x ≡ y) → (x y : Reply) → Then Step next x → Then Step next y → x ≡ y
then_one_given Step next one each x y (inl (a, step, more)) (inl (b, other, rest)) =
    let same = one (Ok a) (Ok b) step other in
    let is : a ≡ b = cc in
    each b other x y (subst (λ a. next a x) is more) rest
then_one_given Step next one each x y (inl (a, step, more)) (inr stop) = let same = one (Ok a) (Err y) step stop in cc
then_one_given Step next one each x y (inr stop) (inl (b, other, rest)) = let same = one (Err x) (Ok b) stop other in cc
then_one_given Step next one each x y (inr stop) (inr other) = let same = one (Err x) (Err y) stop other in cc

-- what follows from what comes after a step follows from both
pub then_map : {A : Type 0} (Step : Result A Reply → Type 0) (next more : A → Reply → Type 0) → ((a : A) (reply : Reply) → next a reply → more a reply)
    → (reply : Reply) → Then Step next reply → Then Step more reply
then_map Step next more each reply (inl (a, step, rest)) = inl (a, step, each a reply rest)
then_map Step next more each reply (inr stop) = inr stop

some_after : {A : Type 0} (Step : Result A Reply → Type 0) (next : A → Reply → Type 0) (outcome : Result A Reply) → Step outcome
    → ((a : A) → (reply : Reply) × next a reply) → (reply : Reply) × Then Step next reply
some_after Step next (Ok a) step each = ((each a).0, inl (a, step, (each a).1))
some_after Step next (Err reply) step each = (reply, inr step)

-- steps that each have an outcome have one together
pub then_some : {A : Type 0} (Step : Result A Reply → Type 0) (next : A → Reply → Type 0) → ((outcome : Result A Reply) × Step outcome)
    → ((a : A) → (reply : Reply) × next a reply) → (reply : Reply) × Then Step next reply
then_some Step next some each = some_after Step next some.0 some.1 each

-- the same where what follows rests on what the step gives
after_given : {A : Type 0} (Step : Result A Reply → Type 0) (next : A → Reply → Type 0) (outcome : Result A Reply) → Step outcome
    → ((a : A) → Step (Ok a) → (reply : Reply) × next a reply) → (reply : Reply) × Then Step next reply
after_given Step next (Ok a) step each = let more = each a step in (more.0, inl (a, step, more.1))
after_given Step next (Err reply) step each = (reply, inr step)

pub then_given : {A : Type 0} (Step : Result A Reply → Type 0) (next : A → Reply → Type 0) → ((outcome : Result A Reply) × Step outcome)
    → ((a : A) → Step (Ok a) → (reply : Reply) × next a reply) → (reply : Reply) × Then Step next reply
then_given Step next some each = after_given Step next some.0 some.1 each

-- what stops with one reply stops with another that follows from it
pub stops_map : (P Q : Reply → Type 0) → ((reply : Reply) → P reply → Q reply) → (stop : Stop) → StopsWith P stop → StopsWith Q stop
stops_map P Q each Memory stops = tt
stops_map P Q each (Refused status line) stops = (stops.0, each _ stops.1)
stops_map P Q each (Unread line) stops = stops

pub replies_map : (P Q : Reply → Type 0) → ((reply : Reply) → P reply → Q reply) → (found : Result (Vec ℕ Global) Stop) → Replies P found → Replies Q found
replies_map P Q each (Ok text) says = each (done_reply text.items) says
replies_map P Q each (Err stop) stops = stops_map P Q each stop stops

pub writes_map : (P Q : List ℕ → Reply → Type 0) → ((tail : List ℕ) (reply : Reply) → P tail reply → Q tail reply) → (found : Result (Vec ℕ Global) Stop) → Writes P found → Writes Q found
writes_map P Q each (Ok text) says = (says.0, says.1, each says.1 (done_reply says.0) says.2, says.3)
writes_map P Q each (Err stop) stops = stops_map (P []) (Q []) (each []) stop stops

-- where files are told, a file gives one thing
file_one : (files : Files) (word : List ℕ) (limit : ℕ) (x y : Result (List ℕ) Reply) → TakesFile (Some files) word limit x → TakesFile (Some files) word limit y → x ≡ y
file_one files word limit (Ok bytes) (Ok others) (few, is) (few_too, other_is) = let same = sym is ∙ other_is in cc
file_one files word limit (Ok bytes) (Err reply) (few, is) (inl (none, stop)) = let same = sym is ∙ none in cc
file_one files word limit (Ok bytes) (Err reply) (few, is) (inr (long, stop)) =
    let more : limit < length bytes = subst (λ f. IsSomeAnd f (λ b. limit < length b)) is long in
    absurd (omega arith)
file_one files word limit (Err reply) (Ok bytes) (inl (none, stop)) (few, is) = let same = sym is ∙ none in cc
file_one files word limit (Err reply) (Ok bytes) (inr (long, stop)) (few, is) =
    let more : limit < length bytes = subst (λ f. IsSomeAnd f (λ b. limit < length b)) is long in
    absurd (omega arith)
file_one files word limit (Err reply) (Err other) (inl (none, stop)) (inl (none_too, stop_too)) = ap Err (stop ∙ sym stop_too)
file_one files word limit (Err reply) (Err other) (inl (none, stop)) (inr (long, stop_too)) =
    absurd (subst (λ f. IsSomeAnd f (λ b. limit < length b)) none long)
file_one files word limit (Err reply) (Err other) (inr (long, stop)) (inl (none, stop_too)) =
    absurd (subst (λ f. IsSomeAnd f (λ b. limit < length b)) none long)
file_one files word limit (Err reply) (Err other) (inr (long, stop)) (inr (long_too, stop_too)) = ap Err (stop ∙ sym stop_too)

-- steps for a list have at most one outcome where each has
pub each_one : {A B : Type 0} (Step : A → Result B Reply → Type 0) → ((x : A) (u v : Result B Reply) → Step x u → Step x v → u ≡ v)
    → (xs : List A) (u v : Result (List B) Reply) → Each Step xs u → Each Step xs v → u ≡ v
each_one Step one [] (Ok found) (Ok others) left right = ap Ok (left ∙ sym right)
each_one Step one [] (Err reply) v left right = absurd left
each_one Step one [] (Ok found) (Err reply) left right = absurd right
each_one Step one (x ∷ xs) (Ok []) v left right = absurd left
each_one Step one (x ∷ xs) (Ok (y ∷ found)) (Ok []) left right = absurd right
each_one Step one (x ∷ xs) (Ok (y ∷ found)) (Ok (z ∷ others)) left right =
    let first = one x (Ok y) (Ok z) left.0 right.0 in
    let then = each_one Step one xs (Ok found) (Ok others) left.1 right.1 in
    cc
each_one Step one (x ∷ xs) (Ok (y ∷ found)) (Err reply) left (inl stop) = let first = one x (Ok y) (Err reply) left.0 stop in cc
each_one Step one (x ∷ xs) (Ok (y ∷ found)) (Err reply) left (inr (z, here, stop)) = let then = each_one Step one xs (Ok found) (Err reply) left.1 stop in cc
each_one Step one (x ∷ xs) (Err reply) (Ok []) left right = absurd right
each_one Step one (x ∷ xs) (Err reply) (Ok (y ∷ found)) (inl stop) right = let first = one x (Ok y) (Err reply) right.0 stop in cc
each_one Step one (x ∷ xs) (Err reply) (Ok (y ∷ found)) (inr (z, here, stop)) right = let then = each_one Step one xs (Ok found) (Err reply) right.1 stop in cc
each_one Step one (x ∷ xs) (Err reply) (Err other) (inl stop) (inl stop_too) = let first = one x (Err reply) (Err other) stop stop_too in cc
each_one Step one (x ∷ xs) (Err reply) (Err other) (inl stop) (inr (y, here, stop_too)) = let first = one x (Err reply) (Ok y) stop here in cc
each_one Step one (x ∷ xs) (Err reply) (Err other) (inr (y, here, stop)) (inl stop_too) = let first = one x (Ok y) (Err other) here stop_too in cc
each_one Step one (x ∷ xs) (Err reply) (Err other) (inr (y, here, stop)) (inr (z, here_too, stop_too)) = let then = each_one Step one xs (Err reply) (Err other) stop stop_too in cc

pub takes_one : (files : Files) (wanted : List (List ℕ × ℕ)) (x y : Result (List (List ℕ)) Reply) → Takes (Some files) wanted x → Takes (Some files) wanted y → x ≡ y
takes_one files = each_one (λ file. TakesFile (Some files) file.0 file.1) (λ file. file_one files file.0 file.1)

-- and some thing
file_some : (files : Files) (word : List ℕ) (limit : ℕ) (found : Option (List ℕ)) → content_of files word ≡ found
    → (outcome : Result (List ℕ) Reply) × TakesFile (Some files) word limit outcome
file_some files word limit None is = (Err (no_file word), inl (is, refl))
file_some files word limit (Some bytes) is =
    elim (cases_lt limit (length bytes)) [
      | inl long ↦ (Err (file_too_long word), inr (subst (λ f. IsSomeAnd f (λ b. limit < length b)) (sym is) long, refl))
      | inr few ↦ (Ok bytes, (few, is))
    ]

each_more : {A B : Type 0} (Step : A → Result B Reply → Type 0) (x : A) (xs : List A) (first : Result B Reply) (then : Result (List B) Reply)
    → Step x first → Each Step xs then → (outcome : Result (List B) Reply) × Each Step (x ∷ xs) outcome
each_more Step x xs (Ok y) (Ok found) one all = (Ok (y ∷ found), (one, all))
each_more Step x xs (Ok y) (Err reply) one all = (Err reply, inr (y, one, all))
each_more Step x xs (Err reply) then one all = (Err reply, inl one)

-- and one outcome where each has one
pub each_some : {A B : Type 0} (Step : A → Result B Reply → Type 0) → ((x : A) → (u : Result B Reply) × Step x u) → (xs : List A)
    → (outcome : Result (List B) Reply) × Each Step xs outcome
each_some Step some [] = (Ok [], refl)
each_some Step some (x ∷ xs) = let one = some x in let all = each_some Step some xs in each_more Step x xs one.0 all.0 one.1 all.1

-- as many are found as there are
pub each_length : {A B : Type 0} (Step : A → Result B Reply → Type 0) (xs : List A) (found : List B) → Each Step xs (Ok found) → length found ≡ length xs
each_length Step [] found none = ap length none
each_length Step (x ∷ xs) [] each = absurd each
each_length Step (x ∷ xs) (y ∷ found) each = ap suc (each_length Step xs found each.1)

pub takes_some : (files : Files) (wanted : List (List ℕ × ℕ)) → (outcome : Result (List (List ℕ)) Reply) × Takes (Some files) wanted outcome
takes_some files = each_some (λ file. TakesFile (Some files) file.0 file.1) (λ file. file_some files file.0 file.1 (content_of files file.0) refl)

-- ---- steps for a list, one after another
-- what was found, put in front of what the rest gives
abbrev pub after_found : {B : Type 0} → List B → Result (List B) Reply → Result (List B) Reply
after_found found (Ok rest) = Ok (found ++ rest)
after_found found (Err reply) = Err reply

-- whatever those from the i-th on give, put after what was found, is what all give
abbrev pub EachAfter : {A B : Type 0} → (A → Result B Reply → Type 0) → List A → ℕ → List B → Type 0
EachAfter {A} {B} Step xs i found = (rest : Result (List B) Reply) → Each Step (drop i xs) rest → Each Step xs (after_found found rest)

module _ {A B : Type 0} (Step : A → Result B Reply → Type 0) (xs : List A) (i : ℕ) (x : A) (at : drop i xs ≡ x ∷ drop (i + 1) xs) (found : List B) (so_far : EachAfter Step xs i found) where
  here : (y : B) (rest : Result (List B) Reply) → Step x (Ok y) → Each Step (drop (i + 1) xs) rest → Each Step (x ∷ drop (i + 1) xs) (after_found (y ∷ []) rest)
  here y (Ok rest) step each = (step, each)
  here y (Err reply) step each = inr (y, step, each)

  joined : (y : B) (rest : Result (List B) Reply) → after_found found (after_found (y ∷ []) rest) ≡ after_found (found ++ y ∷ []) rest
  joined y (Ok rest) = ap Ok (sym (append_assoc found (y ∷ []) rest))
  joined y (Err reply) = refl

  -- one more
  pub each_next : (y : B) → Step x (Ok y) → EachAfter Step xs (i + 1) (found ++ y ∷ [])
  each_next y step rest each =
      subst (Each Step xs) (joined y rest) (so_far (after_found (y ∷ []) rest) (subst (λ l. Each Step l (after_found (y ∷ []) rest)) (sym at) (here y rest step each)))

  -- the one that ends the work
  pub each_stops : (reply : Reply) → Step x (Err reply) → Each Step xs (Err reply)
  each_stops reply step = so_far (Err reply) (subst (λ l. Each Step l (Err reply)) (sym at) (inl step))

pub each_first : {A B : Type 0} (Step : A → Result B Reply → Type 0) (xs : List A) → EachAfter Step xs 0 []
each_first Step xs (Ok rest) each = each
each_first Step xs (Err reply) each = each

-- no more
pub each_done : {A B : Type 0} (Step : A → Result B Reply → Type 0) (xs : List A) (i : ℕ) (found : List B) → length xs ≤ i → EachAfter Step xs i found → Each Step xs (Ok found)
each_done Step xs i found past so_far = subst (λ l. Each Step xs (Ok l)) (append-nil found) (so_far (Ok []) (subst (λ l. Each Step l (Ok [])) (sym (drop_all i xs past)) refl))

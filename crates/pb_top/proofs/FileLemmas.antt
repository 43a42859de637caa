-- Files taken in order, up to the first that can't be taken.
use Rattle.std.proofs.Common.{◌≡◌, ℕ, suc, ◌+◌, ◌<◌, take, arith, add-one, List, [], ◌∷◌, ◌++◌, length, drop, get_or, Option, Some, None, Result, Ok, Err, IsErrAnd, Vec, inl, inr, sym, ap, subst, refl, ◌∙◌, append_assoc, append-nil}
use Rattle.std.specs.Borrow.{Bor}
use Rattle.std.specs.declared.alloc.Global.{Global}
use Rattle.std.proofs.Math.Seq.{drop-cons}
use Rattle.std.proofs.lemmas.List.{get_or-map, length-map, take_more, take-append-drop, drop_all, map-append}
use Rattle.pb_outside.specs.Count.{RoseBy}
use Rattle.pb_outside.specs.Shelf.{Files, asked_after}
use Rattle.pb_outside.specs.declared.shelf.TheConstants.{FILE_LIMIT}
use Rattle.pb_top.specs.Sinks.{ShelfChange, AsksFront}
use Rattle.pb_top.specs.Texts.{read_fault_line}
use Rattle.pb_top.specs.Reply.{Reply, refusal_reply}
use Rattle.pb_top.specs.Steps.{TakesFile, Takes}
use Rattle.pb_top.specs.Answer.{limited}
use Rattle.pb_top.specs.Working.{IsUnread, ShelfStops, AreTaken, contents_of, texts_of}
use Rattle.pb_top.specs.declared.reply.Stop.{Stop}
use Rattle.pb_top.specs.declared.reply.Stop.TheVariants.{Memory, Refused, Unread}

abbrev pub no_slice : Bor (List ℕ)
no_slice = record { ref_ptr = (0, 0); now = [] }

-- no name was asked
pub asks_none : (names : List (List ℕ)) (told : Option (List (List ℕ))) → AsksFront names told told
asks_none names None = record { front = []; others = names; parts = refl; asked = refl }
asks_none names (Some before) = record { front = []; others = names; parts = refl; asked = ap Some (sym (append-nil before)) }

-- the work stops at a file that couldn't be read
pub fault_stops : (name : List ℕ) (shelf : ShelfChange) (stop : Stop) → RoseBy 1 shelf.faults_before shelf.faults_now
    → shelf.asked_now ≡ asked_after (name ∷ []) shelf.asked_before → IsUnread (read_fault_line name) stop
    → ShelfStops (name ∷ []) (λ told r. Takes told (limited (name ∷ [])) (Err r)) shelf stop
fault_stops name shelf Memory cause last is = absurd is
fault_stops name shelf (Refused status line) cause last is = absurd is
fault_stops name shelf (Unread line) cause last is =
    record { cause = cause; front = []; word = name; others = []; parts = refl; last = last; text = is }

-- what was read, put in front of what the rest gives
abbrev pub after_contents : List (List ℕ) → Result (List (List ℕ)) Reply → Result (List (List ℕ)) Reply
after_contents contents (Ok rest) = Ok (contents ++ rest)
after_contents contents (Err reply) = Err reply

-- whatever the files from the i-th on give, put after what was read, is what all give
abbrev pub Reading : Option Files → List (List ℕ) → ℕ → List (List ℕ) → Type 0
Reading told texts i contents =
    (rest : Result (List (List ℕ)) Reply) → Takes told (limited (drop i texts)) rest → Takes told (limited texts) (after_contents contents rest)

-- the i-th text, and those before and after it
pub record Turn (texts : List (List ℕ)) (i : ℕ) (name : List ℕ) : Type 0 where
  pub here : drop i texts ≡ name ∷ drop (i + 1) texts
  pub more : take (i + 1) texts ≡ take i texts ++ (name ∷ [])

pub turn : (names : List (Bor (List ℕ))) (i : ℕ) → i < length names → Turn (texts_of names) i (get_or names i no_slice).now
turn names i some =
    let text : Bor (List ℕ) → List ℕ = λ s. s.now in
    let texts = texts_of names in
    let at : get_or texts i [] ≡ (get_or names i no_slice).now = get_or-map text names i no_slice [] some in
    let few : i < length texts = omega (arith, length-map names text) in
    record {
      here = drop-cons texts i [] few ∙ ap (λ t. t ∷ drop (suc i) texts) at ∙ ap (λ n. (get_or names i no_slice).now ∷ drop n texts) (sym (add-one i));
      more = take_more texts i [] few ∙ ap (λ t. take i texts ++ (t ∷ [])) at;
    }

-- one more file was taken
file_after : (told : Option Files) (name bytes : List ℕ) (texts : List (List ℕ)) (rest : Result (List (List ℕ)) Reply) → TakesFile told name FILE_LIMIT (Ok bytes)
    → Takes told (limited texts) rest → Takes told (limited (name ∷ texts)) (after_contents (bytes ∷ []) rest)
file_after told name bytes texts (Ok rest) one takes = (one, takes)
file_after told name bytes texts (Err reply) one takes = inr (bytes, one, takes)

both_after : (contents : List (List ℕ)) (bytes : List ℕ) (rest : Result (List (List ℕ)) Reply)
    → after_contents contents (after_contents (bytes ∷ []) rest) ≡ after_contents (contents ++ (bytes ∷ [])) rest
both_after contents bytes (Ok rest) = ap Ok (sym (append_assoc contents (bytes ∷ []) rest))
both_after contents bytes (Err reply) = refl

pub reads_on : (told : Option Files) (texts : List (List ℕ)) (i : ℕ) (name bytes : List ℕ) (contents : List (List ℕ)) → Turn texts i name
    → TakesFile told name FILE_LIMIT (Ok bytes) → Reading told texts i contents → Reading told texts (i + 1) (contents ++ (bytes ∷ []))
reads_on told texts i name bytes contents at one read rest takes =
    subst (Takes told (limited texts)) (both_after contents bytes rest)
    (read (after_contents (bytes ∷ []) rest)
    (subst (λ l. Takes told (limited l) (after_contents (bytes ∷ []) rest)) (sym at.here) (file_after told name bytes (drop (i + 1) texts) rest one takes)))

-- names after names
pub asked_both : (front more : List (List ℕ)) (told : Option (List (List ℕ))) → asked_after more (asked_after front told) ≡ asked_after (front ++ more) told
asked_both front more None = refl
asked_both front more (Some before) = ap Some (append_assoc before front more)

-- a part of the i-th text alone, as a part of all
split_at : (texts : List (List ℕ)) (i : ℕ) (name : List ℕ) (front others : List (List ℕ)) → Turn texts i name → name ∷ [] ≡ front ++ others
    → texts ≡ (take i texts ++ front) ++ (others ++ drop (i + 1) texts)
split_at texts i name front others at parts =
    sym (take-append-drop i texts) ∙ ap (λ t. take i texts ++ t) (at.here ∙ ap (λ t. t ++ drop (i + 1) texts) parts ∙ append_assoc front others (drop (i + 1) texts))
    ∙ sym (append_assoc (take i texts) front (others ++ drop (i + 1) texts))

pub asks_more : (texts : List (List ℕ)) (i : ℕ) (name : List ℕ) (before mid now : Option (List (List ℕ))) → Turn texts i name
    → mid ≡ asked_after (take i texts) before → AsksFront (name ∷ []) mid now → AsksFront texts before now
asks_more texts i name before mid now at first asks = record {
  front = take i texts ++ asks.front;
  others = asks.others ++ drop (i + 1) texts;
  parts = split_at texts i name asks.front asks.others at asks.parts;
  asked = asks.asked ∙ ap (asked_after asks.front) first ∙ asked_both (take i texts) asks.front before;
}

stop_first : (told : Option Files) (name : List ℕ) (texts : List (List ℕ)) (reply : Reply) → Takes told (limited (name ∷ [])) (Err reply) → Takes told (limited (name ∷ texts)) (Err reply)
stop_first told name texts reply (inl stop) = inl stop
stop_first told name texts reply (inr (bytes, one, none)) = absurd none

-- the file that stops the work stops the work over all
pub all_stop : (whole last : ShelfChange) (texts : List (List ℕ)) (i : ℕ) (name : List ℕ) (contents : List (List ℕ)) (stop : Stop) → Turn texts i name
    → last.before ≡ whole.before → last.faults_before ≡ whole.faults_before → last.faults_now ≡ whole.faults_now
    → last.asked_before ≡ asked_after (take i texts) whole.asked_before → last.asked_now ≡ whole.asked_now → Reading whole.before texts i contents
    → ShelfStops (name ∷ []) (λ told r. Takes told (limited (name ∷ [])) (Err r)) last stop → ShelfStops texts (λ told r. Takes told (limited texts) (Err r)) whole stop
all_stop whole last texts i name contents Memory at same sound now first asked read stops = tt
all_stop whole last texts i name contents (Refused status line) at same sound now first asked read stops =
    let reply = refusal_reply status line.items in (
      sym now ∙ stops.0 ∙ sound,
      stops.1,
      read (Err reply)
          (subst (λ l. Takes whole.before (limited l) (Err reply)) (sym at.here)
          (stop_first whole.before name (drop (i + 1) texts) reply (subst (λ told. Takes told (limited (name ∷ [])) (Err reply)) same stops.2))),
    )
all_stop whole last texts i name contents (Unread line) at same sound now first asked read stops = record {
  cause = subst (λ n. RoseBy 1 n whole.faults_now) sound (subst (λ n. RoseBy 1 last.faults_before n) now stops.cause);
  front = take i texts ++ stops.front;
  word = stops.word;
  others = stops.others ++ drop (i + 1) texts;
  parts = split_at texts i name stops.front (stops.word ∷ stops.others) at stops.parts;
  last = sym asked ∙ stops.last ∙ ap (asked_after (stops.front ++ (stops.word ∷ []))) first
      ∙ asked_both (take i texts) (stops.front ++ (stops.word ∷ [])) whole.asked_before
      ∙ ap (λ t. asked_after t whole.asked_before) (sym (append_assoc (take i texts) stops.front (stops.word ∷ [])));
  text = stops.text;
}

-- no more names
pub all_read : (told : Option Files) (names : List (Bor (List ℕ))) (contents : List (List ℕ)) → Reading told (texts_of names) (length names) contents
    → Takes told (limited (texts_of names)) (Ok contents)
all_read told names contents read =
    let text : Bor (List ℕ) → List ℕ = λ s. s.now in
    let none : drop (length names) (texts_of names) ≡ [] = ap (λ n. drop n (texts_of names)) (sym (length-map names text)) ∙ drop_all (length (texts_of names)) (texts_of names) (omega arith) in
    subst (λ l. Takes told (limited (texts_of names)) (Ok l)) (append-nil contents) (read (Ok []) (subst (λ l. Takes told (limited l) (Ok [])) (sym none) refl))

-- what `?` hands on
pub stop_taken : (names : List (List ℕ)) (shelf : ShelfChange) (found : Result (Vec (Vec ℕ Global) Global) Stop) (stop : Stop) → IsErrAnd found (λ e. e ≡ stop)
    → ShelfStops names (λ told r. Takes told (limited names) (Err r)) shelf stop → AreTaken names shelf found
stop_taken names shelf (Ok contents) stop is stops = absurd is
stop_taken names shelf (Err e) stop is stops = subst (ShelfStops names (λ told r. Takes told (limited names) (Err r)) shelf) (sym is) stops

-- the bytes of one more file
pub contents_more : (contents more : List (Vec ℕ Global)) (bytes : Vec ℕ Global) → more ≡ contents ++ (bytes ∷ [])
    → contents_of more ≡ contents_of contents ++ (bytes.items ∷ [])
contents_more contents more bytes is = ap contents_of is ∙ map-append (λ (b : Vec ℕ Global). b.items) contents (bytes ∷ [])

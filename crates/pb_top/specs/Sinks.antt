-- What a call does to a sink and to a shelf.
use Rattle.std.specs.Prelude.{◌≡◌, ℕ, ◌<◌, List, [], ◌∷◌, ◌++◌, length, take, Option, Result, Ok, Err}
use Rattle.pb_outside.specs.Count.{RoseBy}
use Rattle.pb_outside.specs.Shelf.{Files, asked_after}
use Rattle.pb_outside.specs.Sink.{told_with}
use Rattle.pb_outside.specs.declared.sink.Refused.{Refused}

-- a sink before and after a call: its bytes, where they are told, and its count of faults
pub record SinkChange : Type 0 where
  pub before : Option (List ℕ)
  pub now : Option (List ℕ)
  pub faults_before : ℕ
  pub faults_now : ℕ

-- a shelf before and after a call: its files and the names that it was asked, where they are told, and its counts of faults and of bytes
pub record ShelfChange : Type 0 where
  pub before : Option Files
  pub now : Option Files
  pub faults_before : ℕ
  pub faults_now : ℕ
  pub bytes_before : ℕ
  pub bytes_now : ℕ
  pub asked_before : Option (List (List ℕ))
  pub asked_now : Option (List (List ℕ))

-- the change of a sink whose type has these meanings
abbrev pub sink_change : {S : Type 0} → (S → Option (List ℕ)) → (S → ℕ) → S → S → SinkChange
sink_change written faults old new =
    record { before = written old; now = written new; faults_before = faults old; faults_now = faults new }

-- the change of a shelf whose type has these meanings
abbrev pub shelf_change : {S : Type 0} → (S → Option Files) → (S → ℕ) → (S → ℕ) → (S → Option (List (List ℕ))) → S → S → ShelfChange
shelf_change files faults bytes asked old new = record {
  before = files old;
  now = files new;
  faults_before = faults old;
  faults_now = faults new;
  bytes_before = bytes old;
  bytes_now = bytes new;
  asked_before = asked old;
  asked_now = asked new;
}

-- the shelf met no fault
abbrev pub IsSound : ShelfChange → Type 0
IsSound shelf = shelf.faults_now ≡ shelf.faults_before

-- nothing was asked of the shelf
pub record IsUntouched (shelf : ShelfChange) : Type 0 where
  pub files : shelf.now ≡ shelf.before
  pub faults : IsSound shelf
  pub bytes : shelf.bytes_now ≡ shelf.bytes_before
  pub asked : shelf.asked_now ≡ shelf.asked_before

-- the first of these names were asked, in their order, and no other
pub record AsksFront (names : List (List ℕ)) (before now : Option (List (List ℕ))) : Type 0 where
  pub front : List (List ℕ)
  pub others : List (List ℕ)
  pub parts : names ≡ front ++ others
  pub asked : now ≡ asked_after front before

-- a name was the last that was asked
abbrev pub AsksLast : List ℕ → Option (List (List ℕ)) → Option (List (List ℕ)) → Type 0
AsksLast word before now = (front : List (List ℕ)) × (now ≡ asked_after (front ++ (word ∷ [])) before)

-- the sink gained just this text
abbrev pub Gains : List ℕ → SinkChange → Type 0
Gains text sink = sink.now ≡ told_with text sink.before

-- the sink gained nothing
abbrev pub Stays : SinkChange → Type 0
Stays sink = sink.now ≡ sink.before

-- the sink met no fault
abbrev pub IsSteady : SinkChange → Type 0
IsSteady sink = sink.faults_now ≡ sink.faults_before

-- nothing was put on the sink
pub record IsIdle (sink : SinkChange) : Type 0 where
  pub stays : Stays sink
  pub steady : IsSteady sink

-- a put of the text was refused: the sink gained what came before it
pub record Breaks (text : List ℕ) (sink : SinkChange) : Type 0 where
  pub cause : RoseBy 1 sink.faults_before sink.faults_now
  pub put : ℕ
  pub short : put < length text
  pub gained : Gains (take put text) sink

-- the whole text was put, or a put of it was refused
abbrev pub PutsAll : List ℕ → Result (Unit {0}) Refused → SinkChange → Type 0
PutsAll text (Ok all) sink = Gains text sink × IsSteady sink
PutsAll text (Err e) sink = Breaks text sink

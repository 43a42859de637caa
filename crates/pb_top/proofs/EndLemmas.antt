-- From what the work ended with, once it was written, to how the call ends.
use Rattle.std.proofs.Common.{◌≡◌, ◌≢◌, true, false, ℕ, suc, ◌<◌, ◌≤◌, List, [], ◌∷◌, ◌++◌, length, map, take, drop, ◌-◌, String, Option, Some, None, ◌⊎◌, Result, Ok, Err, IfOk, Vec, Contains, inl, inr, string_bytes, refl, sym, ap, subst, ◌∙◌, append-nil, arith}
use Rattle.std.specs.declared.alloc.Global.{Global}
use Rattle.std.specs.declared.alloc.AllocError.{AllocError}
use Rattle.std.proofs.lemmas.List.Elements.{Contains-append_right}
use Rattle.std.proofs.lemmas.List.{take_all, length-drop, drop-map}
use Rattle.pb_outside.specs.Sink.{told_with}
use Rattle.pb_outside.specs.Shelf.{Files}
use Rattle.pb_words.specs.Line.{Asks, Line, IsInside, check, choices, demo, run, tune}
use Rattle.pb_words.specs.declared.ask.Ask.{Ask}
use Rattle.pb_words.proofs.LineLemmas.{one_reading}
use Rattle.pb_top.specs.Sinks.{ShelfChange, SinkChange, IsSound, IsUntouched, AsksFront, Gains, Stays, IsIdle}
use Rattle.pb_top.specs.Reply.{Reply, status_code, done_reply, refusal_reply, usage}
use Rattle.pb_words.specs.Files.{file_words}
use Rattle.pb_top.specs.Answer.{NeedThreads, needs_threads, AskAnswers, Answers, IsTail, IsTailOf, IsOut, IsFileWord, AreFileWords}
use Rattle.pb_top.specs.Ends.{IsReadFault, Shows, IsAnswerStatus, AreSteady, AsksInOrder, OutBreaks, ErrBreaks, Ends}
use Rattle.pb_top.specs.Working.{IsRefusal, StopsWith, ShelfWrites, WritesTo, IsWritten, LineIsWritten}
use Rattle.pb_top.specs.declared.reply.Status.{Status}
use Rattle.pb_top.specs.declared.reply.Stop.{Stop}
use Rattle.pb_top.specs.declared.reply.Stop.TheVariants.{Memory, Refused, Unread}
use Rattle.pb_top.proofs.FileLemmas.{asks_none}

no_bytes : (told : Option (List ℕ)) → told ≡ told_with [] told
no_bytes None = refl
no_bytes (Some written) = ap Some (sym (append-nil written))

gains_none : (sink : SinkChange) → Stays sink → Gains [] sink
gains_none sink stays = stays ∙ no_bytes sink.before

-- what every end of a call keeps of the shelf
pub record Keeps (words : List (List ℕ)) (shelf : ShelfChange) : Type 0 where
  pub files : shelf.now ≡ shelf.before
  pub asked : AsksInOrder words shelf
  pub untaken : AreFileWords words shelf.before [] → shelf.bytes_now ≡ shelf.bytes_before

-- a status that no fault has is an answer's
pub other_status : (status n : ℕ) → status ≡ n → (n < 9) ⊎ (11 < n) → IsAnswerStatus status
other_status status n is other =
    record { no_read_fault = λ e. absurd (omega arith); no_write_fault = λ e. absurd (omega arith); in_memory = λ e. absurd (omega arith) }

module _ (words : List (List ℕ)) (shelf : ShelfChange) (out err : SinkChange) (keeps : Keeps words shelf) where
  -- the text of a reply was put whole
  reply_ends : (reply : Reply) (text : List ℕ) (status : ℕ) → (reply.status < 9) ⊎ (11 < reply.status) → IsSound shelf → Answers words shelf.before reply → IsOut words shelf.before reply text → status ≡ reply.status
      → Gains text out → Gains reply.err err → AreSteady out err → (status ≢ 0 → Stays out) → (status ≡ 0 → Stays err) → Ends words shelf out err status
  reply_ends reply text status other sound answers is_text is gains_out gains_err steady untouched silent =
      let plain = other_status status reply.status is other in
      let shows : Shows words shelf.before out err status reply = record { status_is = is; text = text; is_text = is_text; gains_out = gains_out; gains_err = gains_err } in
      record {
        answered = λ s. record { reply = reply; answers = answers; shows = shows };
        read_fault = λ e. absurd (plain.no_read_fault e);
        write_fault = λ e. absurd (plain.no_write_fault e);
        memory = λ e. absurd (plain.in_memory e);
        files = keeps.files;
        asked = keeps.asked;
        untaken = keeps.untaken;
        sound = λ s. sound;
        steady = λ n. steady;
        untouched = λ a b. untouched a;
        silent = silent;
      }

  -- a put was refused
  breaks_ends : (status : ℕ) → status ≡ 10 → OutBreaks words shelf out err ⊎ ErrBreaks words shelf out err → Ends words shelf out err status
  breaks_ends status is breaks = record {
    answered = λ s. absurd (s.no_write_fault is);
    read_fault = λ e. absurd (omega arith);
    write_fault = λ e. breaks;
    memory = λ e. absurd (omega arith);
    files = keeps.files;
    asked = keeps.asked;
    untaken = keeps.untaken;
    sound = λ s. absurd (s.no_write_fault is);
    steady = λ n. absurd (n is);
    untouched = λ a b. absurd (b is);
    silent = λ e. absurd (omega arith);
  }

  -- memory ran out before anything was put
  memory_ends : (status : ℕ) → status ≡ 11 → IsIdle out → IsIdle err → Ends words shelf out err status
  memory_ends status is idle_out idle_err = record {
    answered = λ s. absurd (s.in_memory is);
    read_fault = λ e. absurd (omega arith);
    write_fault = λ e. absurd (omega arith);
    memory = λ e. (idle_out.stays, idle_err.stays);
    files = keeps.files;
    asked = keeps.asked;
    untaken = keeps.untaken;
    sound = λ s. absurd (s.in_memory is);
    steady = λ n. record { of_out = idle_out.steady; of_err = idle_err.steady };
    untouched = λ a b. idle_out.stays;
    silent = λ e. absurd (omega arith);
  }

  -- a text on `out` is the answer's, with what stands after it
  out_ends : (reply : List ℕ) (text : List ℕ) (status : ℕ) → IsSound shelf → Answers words shelf.before (done_reply reply) → IsOut words shelf.before (done_reply reply) text → WritesTo text out err 0 status → Ends words shelf out err status
  out_ends reply text status sound answers is_text (inl (is, gains, steady, idle)) =
      reply_ends (done_reply reply) text status (inl (omega arith)) sound answers is_text is gains (gains_none err idle.stays) (record { of_out = steady; of_err = idle.steady })
      (λ n. absurd (n is)) (λ e. idle.stays)
  out_ends reply text status sound answers is_text (inr (is, breaks, idle)) =
      breaks_ends status is (inl (record { text = text; is_text = (done_reply reply, answers, is_text); breaks = breaks; idle = idle }))

  -- a line on `err` is the answer's
  err_ends : (code : Status) (line : List ℕ) (status : ℕ) → IsSound shelf → IsRefusal code → Answers words shelf.before (refusal_reply code line) → IsTailOf words shelf.before (refusal_reply code line) []
      → WritesTo line err out (status_code code) status → Ends words shelf out err status
  err_ends code line status sound refusal answers tail (inl (is, gains, steady, idle)) =
      reply_ends (refusal_reply code line) [] status refusal.1 sound answers ([], tail, refl) is (gains_none out idle.stays) gains (record { of_out = idle.steady; of_err = steady })
      (λ n. idle.stays) (λ e. absurd (omega (arith, refusal.0)))
  err_ends code line status sound refusal answers tail (inr (is, breaks, idle)) =
      breaks_ends status is (inr (record { text = line; is_text = inl (refusal_reply code line, answers, refl); breaks = breaks; idle = idle }))

  -- a file couldn't be read
  fault_ends : (line : List ℕ) (status : ℕ) → IsReadFault words shelf line → WritesTo line err out 9 status → Ends words shelf out err status
  fault_ends line status fault (inl (is, gains, steady, idle)) = record {
    answered = λ s. absurd (s.no_read_fault is);
    read_fault = λ e. record { line = line; fault = fault; gains_err = gains; stays_out = idle.stays };
    write_fault = λ e. absurd (omega arith);
    memory = λ e. absurd (omega arith);
    files = keeps.files;
    asked = keeps.asked;
    untaken = keeps.untaken;
    sound = λ s. absurd (s.no_read_fault is);
    steady = λ n. record { of_out = idle.steady; of_err = steady };
    untouched = λ a b. idle.stays;
    silent = λ e. absurd (omega arith);
  }
  fault_ends line status fault (inr (is, breaks, idle)) =
      breaks_ends status is (inr (record { text = line; is_text = inr fault; breaks = breaks; idle = idle }))

  -- a line that was put ends the call
  pub line_ends : (reply : Reply) (line : Result Stop AllocError) (status : ℕ) → IsSound shelf → Answers words shelf.before reply → IsTailOf words shelf.before reply []
      → IfOk line (StopsWith (λ r. r ≡ reply)) → LineIsWritten line out err status → Ends words shelf out err status
  line_ends reply (Ok Memory) status sound answers tail is written = memory_ends status written.0 written.1 written.2
  line_ends reply (Ok (Refused code line)) status sound answers tail is written =
      err_ends code line.items status sound is.0 (subst (Answers words shelf.before) (sym is.1) answers) (subst (λ r. IsTailOf words shelf.before r []) (sym is.1) tail) written
  line_ends reply (Ok (Unread line)) status sound answers tail is written = absurd is
  line_ends reply (Err e) status sound answers tail is written = memory_ends status written.0 written.1 written.2

  -- an answer, and what stands after it
  abbrev Said : Option Files → List ℕ → Reply → Type 0
  Said told tail reply = Answers words told reply × IsTailOf words told reply tail

  -- what the work ended with, once it was written, ends the call
  pub found_ends : (names : List (List ℕ)) (found : Result (Vec ℕ Global) Stop) (status : ℕ) → ((word : List ℕ) → Contains names word → IsFileWord words shelf.before word)
      → ShelfWrites names Said shelf found → IsWritten found out err status → Ends words shelf out err status
  found_ends names (Ok text) status file_word says written =
      let said = says.1.2 in
      out_ends says.1.0 text.items status says.0 said.0 (says.1.1, said.1, says.1.3) written
  found_ends names (Err Memory) status file_word says written = memory_ends status written.0 written.1 written.2
  found_ends names (Err (Refused code line)) status file_word says written = err_ends code line.items status says.0 says.1 says.2.0 says.2.1 written
  found_ends names (Err (Unread line)) status file_word says written =
      fault_ends (string_bytes line) status (record {
        cause = says.cause;
        word = says.word;
        of_line = file_word says.word (subst (λ l. Contains l says.word) (sym says.parts) (Contains-append_right says.front (says.word ∷ says.others) says.word (0, omega arith, refl)));
        last = (says.front, says.last);
        text = says.text;
      }) written

asks_nothing : (names : List (List ℕ)) (shelf : ShelfChange) → IsUntouched shelf → AsksFront names shelf.asked_before shelf.asked_now
asks_nothing names shelf same = subst (AsksFront names shelf.asked_before) (sym same.asked) (asks_none names shelf.asked_before)

-- the words are a line
module _ (words : List (List ℕ)) (ask : Ask) (place : ℕ) (line : Line words ask place) where
  abbrev others : List (List ℕ)
  others = drop place words

  -- an answer to what is asked, and what stands after it
  abbrev Asked : List (List ℕ) → Option Files → List ℕ → Reply → Type 0
  Asked after told tail reply = AskAnswers ask after told reply × IsTail ask after told reply tail

  abbrev SaidOf : Option Files → List ℕ → Reply → Type 0
  SaidOf told tail reply = Answers words told reply × IsTailOf words told reply tail

  none_taken : (told : Option Files) → AreFileWords words told [] → file_words ask others ≡ []
  none_taken told (inl (other, there, again, is)) =
      let same = one_reading words other ask there place again line in
      sym (is ∙ ap (λ a. file_words a (drop there words)) same.0 ∙ ap (λ p. file_words ask (drop p words)) same.1)
  none_taken told (inr (outside, is)) = absurd (outside (ask, place, line))

  inside_keeps : (shelf : ShelfChange) → shelf.now ≡ shelf.before → AsksFront (file_words ask others) shelf.asked_before shelf.asked_now
      → (file_words ask others ≡ [] → shelf.bytes_now ≡ shelf.bytes_before) → Keeps words shelf
  inside_keeps shelf files asked untaken = record {
    files = files;
    asked = record { names = file_words ask others; are = inl (ask, place, line, refl); front = asked };
    untaken = λ none. untaken (none_taken shelf.before none);
  }

  said : (told : Option Files) (tail : List ℕ) (reply : Reply) → Asked others told tail reply → SaidOf told tail reply
  said told tail reply asked = (inl (ask, place, line, asked.0), inl (ask, place, line, asked.1))

  inside_writes : (shelf : ShelfChange) (found : Result (Vec ℕ Global) Stop) → ShelfWrites (file_words ask others) (Asked others) shelf found → ShelfWrites (file_words ask others) SaidOf shelf found
  inside_writes shelf (Ok text) says = (says.0, (says.1.0, says.1.1, said shelf.before says.1.1 (done_reply says.1.0) says.1.2, says.1.3))
  inside_writes shelf (Err Memory) says = tt
  inside_writes shelf (Err (Refused code text)) says = (says.0, says.1, said shelf.before [] (refusal_reply code text.items) says.2)
  inside_writes shelf (Err (Unread text)) says = says

  -- the work on a line, once it was written, ends the call
  pub work_ends : (shelf : ShelfChange) (out err : SinkChange) (after : List (List ℕ)) (found : Result (Vec ℕ Global) Stop) (status : ℕ) → after ≡ others
      → shelf.now ≡ shelf.before → AsksFront (file_words ask after) shelf.asked_before shelf.asked_now
      → (file_words ask after ≡ [] → shelf.bytes_now ≡ shelf.bytes_before) → ShelfWrites (file_words ask after) (Asked after) shelf found
      → IsWritten found out err status → Ends words shelf out err status
  work_ends shelf out err after found status is files asked untaken says =
      let keeps = inside_keeps shelf files (subst (λ o. AsksFront (file_words ask o) shelf.asked_before shelf.asked_now) is asked)
      (subst (λ o. file_words ask o ≡ [] → shelf.bytes_now ≡ shelf.bytes_before) is untaken) in
      found_ends words shelf out err keeps (file_words ask others) found status (λ word here. (ask, place, line, here))
      (inside_writes shelf found (subst (λ o. ShelfWrites (file_words ask o) (Asked o) shelf found) is says))

-- what stands after some words
past : (front rest : List (List ℕ)) → drop (length front) (front ++ rest) ≡ rest
past [] rest = refl
past (word ∷ front) rest = past front rest

after_place : (words : List (List ℕ)) (ask : Ask) (place : ℕ) (line : Line words ask place) → drop place words ≡ line.others
after_place words ask place line = ap (λ n. drop n words) line.placed ∙ ap (drop (suc (length line.option_words))) line.parts ∙ past line.option_words line.others

-- a line has few words after its options
pub few_others : (words : List (List ℕ)) (ask : Ask) (place : ℕ) → Line words ask place → length (drop place words) ≤ 19
few_others words ask place line = omega (arith, ap length (after_place words ask place line), counted line.command line.settings line.others ask line.asks)
  where
    counted : (command : List ℕ) (s : _) (rest : List (List ℕ)) (asked : Ask) → Asks command s rest asked → length rest ≤ 19
    counted command s rest asked (check none) = omega arith
    counted command s rest asked (choices none) = omega arith
    counted command s rest asked (run none few) = omega (arith, few)
    counted command s rest asked (tune none) = omega arith
    counted command s rest asked (demo none seed size workers) = omega arith

-- words outside the grammar
pub usage_ends : (words : List (List ℕ)) (shelf : ShelfChange) (out err : SinkChange) (line : Result Stop AllocError) (status : ℕ) → (IsInside words → ⊥)
    → IsUntouched shelf → IfOk line (StopsWith (λ r. r ≡ usage)) → LineIsWritten line out err status → Ends words shelf out err status
usage_ends words shelf out err line status outside same =
    line_ends words shelf out err (record {
      files = same.files;
      asked = record { names = []; are = inr (outside, refl); front = asks_nothing [] shelf same };
      untaken = λ none. same.bytes;
    }) usage line status same.faults (inr (outside, refl)) (inr (outside, refl))

-- the texts after the place
pub texts_after : (words : List (String Global)) (place : ℕ) → map string_bytes (take (length words - place) (drop place words)) ≡ drop place (map string_bytes words)
texts_after words place =
    ap (map string_bytes) (take_all (length words - place) (drop place words) (omega (arith, length-drop place words))) ∙ sym (drop-map string_bytes place words)

-- ---- commands that need threads, and those that don't
pub no_threads : (words : List (List ℕ)) (ask : Ask) (place : ℕ) → Line words ask place → needs_threads ask ≡ false → NeedThreads words → ⊥
no_threads words ask place line plain (other, there, again, need) =
    let same = one_reading words other ask there place again line in
    let both : false ≡ true = sym plain ∙ subst (λ a. needs_threads a ≡ true) same.0 need in
    absurd (cc)

-- what is done after nothing was done
abbrev shelf_after : ShelfChange → ShelfChange → ShelfChange
shelf_after a b = record { before = a.before; now = b.now; faults_before = a.faults_before; faults_now = b.faults_now; bytes_before = a.bytes_before; bytes_now = b.bytes_now; asked_before = a.asked_before; asked_now = b.asked_now }

abbrev sink_after : SinkChange → SinkChange → SinkChange
sink_after a b = record { before = a.before; now = b.now; faults_before = a.faults_before; faults_now = b.faults_now }

record Follows (a b : ShelfChange) : Type 0 where
  before : b.before ≡ a.now
  faults : b.faults_before ≡ a.faults_now
  bytes : b.bytes_before ≡ a.bytes_now
  asked : b.asked_before ≡ a.asked_now

record FollowsSink (a b : SinkChange) : Type 0 where
  before : b.before ≡ a.now
  faults : b.faults_before ≡ a.faults_now

same_shelf : (a b : ShelfChange) → IsUntouched a → Follows a b → b ≡ shelf_after a b
same_shelf a b h f i = record {
  before = (f.before ∙ h.files) i;
  now = b.now;
  faults_before = (f.faults ∙ h.faults) i;
  faults_now = b.faults_now;
  bytes_before = (f.bytes ∙ h.bytes) i;
  bytes_now = b.bytes_now;
  asked_before = (f.asked ∙ h.asked) i;
  asked_now = b.asked_now;
}

same_sink : (a b : SinkChange) → IsIdle a → FollowsSink a b → b ≡ sink_after a b
same_sink a b h f i = record { before = (f.before ∙ h.stays) i; now = b.now; faults_before = (f.faults ∙ h.steady) i; faults_now = b.faults_now }

pub ends_after : (words : List (List ℕ)) (status : ℕ) (a b : ShelfChange) (out_a out_b err_a err_b : SinkChange) → IsUntouched a → IsIdle out_a → IsIdle err_a
    → (b.before ≡ a.now) × (b.faults_before ≡ a.faults_now) × (b.bytes_before ≡ a.bytes_now) × (b.asked_before ≡ a.asked_now)
    → (out_b.before ≡ out_a.now) × (out_b.faults_before ≡ out_a.faults_now) → (err_b.before ≡ err_a.now) × (err_b.faults_before ≡ err_a.faults_now)
    → Ends words b out_b err_b status → Ends words (shelf_after a b) (sink_after out_a out_b) (sink_after err_a err_b) status
ends_after words status a b out_a out_b err_a err_b h out_idle err_idle f fo fe ends =
    subst (λ s. Ends words s (sink_after out_a out_b) (sink_after err_a err_b) status) (same_shelf a b h (record { before = f.0; faults = f.1; bytes = f.2; asked = f.3 }))
    (subst (λ o. Ends words b o (sink_after err_a err_b) status) (same_sink out_a out_b out_idle (record { before = fo.0; faults = fo.1 }))
    (subst (λ e. Ends words b out_b e status) (same_sink err_a err_b err_idle (record { before = fe.0; faults = fe.1 })) ends))

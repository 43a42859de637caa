use Rattle.std.proofs.Common.{◌≡◌, ◌++◌, map, take, string_bytes}
use Rattle.pb_top.specs.Working.{texts_of}
use Rattle.pb_top.proofs.work.with_words.Given as goal

abbrev pub invariant-loop-word : goal.invariant-loop-word
invariant-loop-word l = texts_of l.all.items ≡ texts_of l.fn.names.items ++ map string_bytes (take l.word-index l.words)

-- A fault with its place aside.
use Rattle.pb_syntax.specs.Places.{unplaced_name}
use Rattle.pb_names.specs.declared.fault.Fault.{Fault}
use Rattle.pb_names.specs.declared.fault.Fault.TheVariants.{Duplicate, Unknown, NotBound, BadOutput, Memory}

abbrev pub unplaced_fault : Fault → Fault
unplaced_fault (Duplicate n) = Duplicate (unplaced_name n)
unplaced_fault (Unknown n) = Unknown (unplaced_name n)
unplaced_fault (NotBound n) = NotBound (unplaced_name n)
unplaced_fault (BadOutput at) = BadOutput 0
unplaced_fault Memory = Memory

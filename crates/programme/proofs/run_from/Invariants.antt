-- `programme::run_from` meets its contract: what is left of the run from here is the run.
use mathlib.Core.Path.{◌≡◌}
use Prim.Native.Nat.{◌-◌, ◌≤◌}
use Rattle.programme.specs.Run.{run_of}
use Rattle.programme.proofs.run_from.Given as goal

abbrev pub invariant-loop-i : goal.invariant-loop-i
invariant-loop-i l = (l.i ≤ l.count) × (run_of (l.count - l.i) l.bytes l.at ≡ run_of l.count l.bytes l.from)

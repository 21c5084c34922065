-- `berth::same_from` meets its promise: the answer is yes exactly while every byte passed is the same.
use mathlib.Core.Path.{◌≡◌}
use Prim.Native.Nat.{◌+◌}
use lib.Dec.{eqb}
use Rattle.base.specs.Bytes.{byte}
use Rattle.base.specs.Below.{every}
use Rattle.berth.proofs.same_from.Given as goal

abbrev pub invariant-loop-i : goal.invariant-loop-i
invariant-loop-i l = l.same ≡ every l.i (λ k. eqb (byte l.a (l.from + k)) (byte l.b (l.from + k)))

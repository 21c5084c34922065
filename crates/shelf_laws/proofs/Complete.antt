-- A held table is called complete exactly when every section from 0 to its last was accepted or loaded since it last began.
use Rattle.std.specs.Prelude.{Result, Ok}
use mathlib.Core.Path.{◌≡◌, sym, ◌∙◌}
use mathlib.Core.Bool.{Bool, true}
use mathlib.Core.List.{List}
use Prim.Native.Nat.{◌+◌}
use native.Mathlib.Omega.{arith}
use Rattle.refusal.specs.declared.Refusal.{Refusal}
use Rattle.base.specs.Below.{every}
use Rattle.base.proofs.Below.{every-all, every-each}
use Rattle.key.specs.declared.Key.{Key}
use Rattle.shelf_laws.specs.History.{Call, after_all, log_of, whole_after}
use Rattle.shelf_laws.specs.Log.{held_by, since, last_since}
use Rattle.shelf_laws.specs.Laws.{CompleteExactly}
use Rattle.shelf_laws.proofs.Asked.{kept_whole}
use Rattle.shelf_laws.proofs.Histories.{holds-all}
use Rattle.shelf_laws.proofs.Held.{held_place}

pub answered : (b : Bool) → ◌≡◌ {A = Result Bool Refusal} (Ok b) (Ok true) → b ≡ true
answered b e = cc

module _ (h : List Call) (key : Key) (held : held_by key (log_of h) ≡ true) where
  whole-after : whole_after h key ≡ Ok (every (last_since key (log_of h) + 1) (since key (log_of h)))
  whole-after = kept_whole (after_all h) (holds-all h).good key (((holds-all h).table key).kept (held_place h key held))

pub complete-exactly : CompleteExactly
complete-exactly h key held = (
  λ e n i. every-each (since key (log_of h)) (last_since key (log_of h) + 1) n (omega arith) (answered _ (sym (whole-after h key held) ∙ e)),
  λ a. whole-after h key held ∙ rw (every-all (since key (log_of h)) (last_since key (log_of h) + 1) (λ n i. a n (omega arith))),
)

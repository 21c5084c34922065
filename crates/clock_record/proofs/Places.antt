-- Laws on a scan of the places.
--   wrong-by               what makes one wrong, in one expression
--   place_at_lem           what a place holds
use mathlib.Core.Path.{◌≡◌}
use mathlib.Core.Bool.{not, ◌&&◌, ◌||◌}
use Prim.Native.Nat.{ℕ, ◌<◌}
use mathlib.Core.List.{List}
use lib.Dec.{leb}
use lib.ListN.{get_or}
use borrow.Author.Tests.{lt-ltb, le-ltb, leb-true, leb-false}
use Rattle.base.proofs.Cases.{by}
use Rattle.clock_rule.specs.Rule.{above}
use Rattle.clock_activation.specs.declared.Held.{Held}
use Rattle.clock_activation.specs.Activation.{past, nobody}
use Rattle.clock_record.specs.Held.{wrong}
use Rattle.clock_record.specs.Words.{in_place, helds_in}
use Rattle.clock_states.proofs.UpTo.{up_at}

pub wrong-by : (now : ℕ) (h : Held)
    → wrong now h
    ≡ (above h.activation.application || (not h.applied && leb h.activation.time now))
    || (h.applied && (not (leb h.activation.time now) || past now h.activation.time))
unfolding wrong
wrong-by now h =
    by (above h.activation.application) (λ a. rw a) λ a.
    by h.applied
    (λ d.
    by (leb h.activation.time now)
    (λ t. rw (a, d, t, le-ltb now h.activation.time (leb-true _ _ t)))
    (λ t. rw (a, d, t, lt-ltb now h.activation.time (leb-false _ _ t))))
    (λ d. by (leb h.activation.time now) (λ t. rw (a, d, t)) (λ t. rw (a, d, t)))

module _ (w : List ℕ) where
  pub place_at_lem : (i : ℕ) → i < 32 → get_or (helds_in w) i nobody ≡ in_place w i
  unfolding helds_in
  place_at_lem i h = up_at 32 (in_place w) i nobody h

-- A trigger belongs to an application exactly when its id length is 0 or its id bytes equal the application's.
--   belongs_exactly   of any trigger with any payload: its id bytes then lie in the payload
--   read_belongs      of a trigger that was read from the payload
use mathlib.Core.Path.{◌≡◌}
use mathlib.Core.List.{List}
use mathlib.Core.Logic.{⊎_elim, inl, inr}
use Prim.Native.Nat.{ℕ, ◌+◌, ◌≤◌}
use native.Mathlib.Omega.{arith}
use lib.ListN.{length}
use Rattle.base.specs.Bytes.{same}
use Rattle.base.specs.Tables.{Decides}
use Rattle.base.proofs.Tables.{most, or-so, and_so}
use Rattle.base.proofs.Tables as tables
use Rattle.base.proofs.Same.{same_refl, same-equal}
use Rattle.trigger.specs.declared.Trigger.{Trigger}
use Rattle.trigger.specs.Theorems.{name_shown, BelongsExactly, ReadBelongs}
use Rattle.trigger.specs.Belongs.{is_id, belongs_of}
use Rattle.trigger.proofs.Places.{all_placed}

bytes-so : (a b : List ℕ) → Decides (same a b) (a ≡ b)
bytes-so a b = (same-equal a b, λ e. rw e (same_refl b))

module _ (s : List ℕ) (t : Trigger) (id : List ℕ) where
  pub belongs_exactly : BelongsExactly s t id
  unfolding belongs_of is_id
  belongs_exactly = or-so _ _ (tables.same t.idlength 0) (and_so _ _ (most (t.id.place + t.id.length) (length s)) (bytes-so (name_shown s t) id))

  pub read_belongs : ReadBelongs s t id
  read_belongs o e =
      let p = all_placed s o t e in
      let u : t.user.place + t.user.length ≡ length s = p.user in
      let l : t.id.place + t.id.length ≤ t.user.place = p.id.1 in (
        λ h. ⊎_elim inl (λ w. inr w.1) (belongs_exactly.0 h),
        λ h. belongs_exactly.1 (⊎_elim inl (λ w. inr (omega arith, w)) h),
      )

-- "Given exactly when": document 01's number 19, the other answers of a step, and the view, in plain words of the loop `s`.
--   refused_19     beyond the loop's end, or before it where the descriptor runs past
--   refused_range  no other number is given
--   over           at the loop's end
--   reads          the descriptor at the place, where it ends within the loop
--   view_whole     the view of a descriptor is its content, as long as the descriptor says
--   view_none      where no descriptor is read the view is empty
--   one_step, one_view   two answers that keep the promise of `descriptors::step_at`, or of `view`, are equal
use mathlib.Core.Path.{◌≡◌, refl, sym, ap, subst, ◌∙◌}
use mathlib.Core.List.{List, []}
use mathlib.Core.Logic.{◌⊎◌, ⊎_elim, inl, inr}
use Prim.Native.Nat.{ℕ, ◌+◌, ◌<◌, ◌≤◌}
use native.Mathlib.Omega.{arith}
use lib.Dec.{ltb}
use lib.ListN.{length}
use borrow.Author.Tests.{ltb-true, ltb-false}
use Rattle.base.specs.Bytes.{byte}
use Rattle.base.proofs.Cases.{by}
use Rattle.base.proofs.Bytes.{length_part}
use Rattle.std.specs.Prelude.{Ok, Err, Some, None}
use Rattle.descriptors.specs.declared.Descriptor.{Descriptor}
use Rattle.descriptors.specs.Loop.{Step, step_of, view_of, content_of}
use Rattle.descriptors.specs.Answer.{step_code}
use Rattle.descriptors.specs.Theorems.{Beyond, RunsPast, Refused19, RefusedRange, Over, Reads, ViewWhole, ViewNone, OneStep, OneView}
use Rattle.descriptors.proofs.Steps.{Tells, step-tells, step_over, step_past, step-reads, reads-there}

module _ (s : List ℕ) (at : ℕ) where
  pub refused_19 : Refused19 s at
  refused_19 = (to (step_of s at) (step-tells s at), from)
    where
      to : (x : Step) → Tells s at x → step_code x ≡ 19 → Beyond s at ⊎ ((at < length s) × RunsPast s at)
      to (Ok (Some d)) t e = absurd (omega arith)
      to (Ok None) t e = absurd (omega arith)
      to (Err r) t e =
          by (ltb (length s) at)
          (λ b. inl (ltb-true _ _ b))
          (λ b. let h : at ≤ length s = ltb-false _ _ b in let z : at ≡ length s → ⊥ = t.1 in inr (omega arith, inr t.2))

      from : Beyond s at ⊎ ((at < length s) × RunsPast s at) → step_code (step_of s at) ≡ 19
      from w =
          ap step_code
          (sym
          (⊎_elim
          (λ h. step_past s at (λ e. omega arith) (omega arith))
          (λ h. step_past s at (λ e. omega arith) (⊎_elim (λ r. omega arith) (λ r. r) h.1))
          w))

  pub refused_range : RefusedRange s at
  refused_range n e = (subst (Tells s at) e (step-tells s at)).0

  pub over : Over s at
  over = (λ e. subst (Tells s at) e (step-tells s at), λ e. sym (step_over s at e))

  pub reads : Reads s at
  reads d = (reads-there s at d, λ h. sym (rw h.here (step-reads s at h.ends)))

  pub view_whole : ViewWhole s at
  unfolding view_of
  view_whole d e =
      let h = reads-there s at d e in
      (rw e, rw (e, h.here) (length_part s (at + 2) (byte s (at + 1)) h.ends))

  pub view_none : ViewNone s at
  unfolding view_of
  view_none n = go (step_of s at) n
    where
      go : (x : Step) → ((d : Descriptor) → x ≡ Ok (Some d) → ⊥) → content_of s x ≡ []
      go (Ok (Some d)) n = absurd (n d refl)
      go (Ok None) n = refl
      go (Err k) n = refl

  pub one_step : OneStep s at
  one_step x y p q = p ∙ sym q

  pub one_view : OneView s at
  one_view x y p q = p ∙ sym q

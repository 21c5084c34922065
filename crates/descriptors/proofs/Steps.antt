-- Laws on a step: when it is over, when it is refused, when it reads.
--   step_over, step_past, step-reads   what the step is, by where the place and the descriptor's end lie
--   read-where                         what is known of a descriptor that was read
use mathlib.Core.Path.{◌≡◌, refl, sym, subst, ◌∙◌}
use mathlib.Core.Bool.{false, ◌||◌}
use mathlib.Core.List.{List}
use Prim.Native.Nat.{ℕ, ◌+◌, ◌-◌, ◌<◌, ◌≤◌}
use native.Mathlib.Omega.{arith}
use native.Mathlib.Nat.{add-sub_cancel_left}
use lib.ListN.{length, take, drop}
use lib.Dec.{ltb, eqb}
use borrow.Author.Tests.{lt-ltb, le-ltb, eq-eqb, ne_eqb, ltb-true, ltb-false, eqb-true, eqb-false}
use Rattle.base.specs.Bytes.{byte}
use Rattle.base.proofs.Cases.{by, either, or_right, unlike}
use Rattle.std.specs.Prelude.{Ok, Err, Some, None}
use Rattle.refusal.specs.declared.Refusal.TheVariants.{DescriptorRunsPast}
use Rattle.descriptors.specs.declared.Descriptor.{Descriptor}
use Rattle.descriptors.specs.Loop.{Step, step_of, view_of, descriptor_at, beyond, runs_past}
use Rattle.descriptors.specs.Theorems.{Stands}

module _ (s : List ℕ) (at : ℕ) where
  pub step_over : at ≡ length s → Ok None ≡ step_of s at
  unfolding step_of
  step_over e = rw (eq-eqb _ _ e)

  pub step_past : (at ≡ length s → ⊥) → length s < at + 2 + byte s (at + 1) → Err DescriptorRunsPast ≡ step_of s at
  unfolding step_of
  step_past n h =
      by (ltb (length s) at)
      (λ t. rw (ne_eqb _ _ n, t))
      (λ f. by (ltb (length s) (at + 2)) (λ t. rw (ne_eqb _ _ n, f, t)) (λ g. rw (ne_eqb _ _ n, f, g, lt-ltb _ _ h)))

  pub step-reads : at + 2 + byte s (at + 1) ≤ length s → Ok (Some (descriptor_at s at)) ≡ step_of s at
  unfolding step_of
  step-reads h =
      rw (
        ne_eqb at (length s) (λ e. omega arith),
        le-ltb (length s) at (omega arith),
        le-ltb (length s) (at + 2) (omega arith),
        le-ltb (length s) (at + 2 + byte s (at + 1)) h,
      )

-- what an answer tells of a place
abbrev pub Tells : List ℕ → ℕ → Step → Type 0
Tells s at (Ok (Some d)) = Stands s at d
Tells s at (Ok None) = at ≡ length s
Tells s at (Err r) = (r ≡ DescriptorRunsPast) × (at ≡ length s → ⊥) × (length s < at + 2 + byte s (at + 1))

pub step-tells : (s : List ℕ) (at : ℕ) → Tells s at (step_of s at)
unfolding step_of
step-tells s at =
    either (Tells s at) (eqb at (length s)) (λ t. eqb-true _ _ t)
    λ n. either (Tells s at) (beyond s at || runs_past s at)
    (λ t. (refl, eqb-false _ _ n, by (ltb (length s) (at + 2 + byte s (at + 1))) (λ u. ltb-true _ _ u) λ u. absurd (unlike (sym t ∙ none u))))
    λ f. record { here = refl; ends = ltb-false _ _ (or_right (ltb (length s) (at + 2)) _ (or_right (beyond s at) (runs_past s at) f)) }
  where
    none : ltb (length s) (at + 2 + byte s (at + 1)) ≡ false → (beyond s at || runs_past s at) ≡ false
    none u = let h : at + 2 + byte s (at + 1) ≤ length s = ltb-false _ _ u in
        rw (le-ltb (length s) at (omega arith), le-ltb (length s) (at + 2) (omega arith), u)

-- a descriptor that is read
pub reads-there : (s : List ℕ) (at : ℕ) (d : Descriptor) → step_of s at ≡ Ok (Some d) → Stands s at d
reads-there s at d e = subst (Tells s at) e (step-tells s at)

-- the part from the content's start to the next place is the view
pub view-reads : (s : List ℕ) (at : ℕ) (d : Descriptor) → step_of s at ≡ Ok (Some d)
    → take (d.next - d.start) (drop d.start s) ≡ view_of s at
unfolding view_of
view-reads s at d e = rw (e, (reads-there s at d e).here, add-sub_cancel_left)

-- the content of a descriptor that is read ends within the loop
pub content-ends : (s : List ℕ) (at : ℕ) (d : Descriptor) → step_of s at ≡ Ok (Some d) → d.start + d.length ≤ length s
content-ends s at d e = let h = reads-there s at d e in rw h.here h.ends

-- A host loses nothing by a step in one number (`specs/Answer.antt` has the words).
--   comes_back    each value comes back out of an answer
--   next_stands   the next place stands in it, in a loop below 2 ^ 40 bytes
--   accepted      the low 8 bits are 0 exactly when the step is not refused
--   step_alike    two loops with one answer at a place have one step there
use mathlib.Core.Path.{◌≡◌, refl, sym, ap, subst, ◌∙◌}
use mathlib.Core.List.{List}
use Prim.Native.Nat.{ℕ, ◌+◌, ◌/◌, ◌%◌, ◌^◌}
use native.Mathlib.Omega.{arith}
use borrow.Author.Tests.{eq-eqb, ne_eqb}
use Rattle.base.specs.Bytes.{byte}
use Rattle.base.specs.Octets.{Octets}
use Rattle.std.specs.Prelude.{Ok, Err, Some, None}
use Rattle.refusal.specs.declared.Refusal.TheVariants.{DescriptorRunsPast}
use Rattle.refusal.proofs.Numbers.{back as refusal_back}
use Rattle.descriptors.specs.declared.Descriptor.{Descriptor}
use Rattle.descriptors.specs.Loop.{Step, step_of, descriptor_at}
use Rattle.descriptors.specs.Answer.{descriptor_code, step_code, length_in, step_in, ComesBack, NextStands, Accepted, StepAlike}
use Rattle.descriptors.proofs.Steps.{Tells, step-tells}

-- a descriptor by its fields
descriptor-by : (d : Descriptor) (tag start size next : ℕ) → tag ≡ d.tag → start ≡ d.start → size ≡ d.length → next ≡ d.next
    → record { tag = tag; start = start; length = size; next = next } ≡ d
descriptor-by d tag start size next a b c e = rw (a, b, c, e)

module _ (s : List ℕ) (b : Octets s) (at : ℕ) where
  length_back : length_in at (descriptor_code (descriptor_at s at)) ≡ byte s (at + 1)
  length_back = let tag = b at in let content = b (at + 1) in omega arith

  found : step_in at (descriptor_code (descriptor_at s at)) ≡ Ok (Some (descriptor_at s at))
  found =
      let tag = b at in
      let code = descriptor_code (descriptor_at s at) in
      rw (eq-eqb (descriptor_code (descriptor_at s at) % 2 ^ 8) 0 (omega arith), ne_eqb (descriptor_code (descriptor_at s at) / 2 ^ 8 % 2 ^ 8) 2 (omega arith))
      (ap (λ d. Ok (Some d))
      (descriptor-by (descriptor_at s at) _ _ _ _ (omega arith) refl length_back (ap (λ n. at + 2 + n) length_back)))

  back : (x : Step) → Tells s at x → step_in at (step_code x) ≡ x
  back (Ok (Some d)) h = rw h.here found
  back (Ok None) h = refl
  back (Err r) h = rw (h.0, refusal_back DescriptorRunsPast)

  pub comes_back : ComesBack s at
  comes_back = back (step_of s at) (step-tells s at)

  pub next_stands : NextStands s at
  next_stands near d e =
      let h = subst (Tells s at) e (step-tells s at) in
      let tag = b at in
      let ends = h.ends in
      rw (e, h.here) (omega arith)

  pub accepted : Accepted s at
  accepted = (
    λ z e. let y : 19 % 2 ^ 8 ≡ 0 = ap (λ x. step_code x % 2 ^ 8) (sym e) ∙ z in omega arith,
    to (step_of s at) (step-tells s at) refl,
  )
    where
      to : (x : Step) → Tells s at x → step_of s at ≡ x → ¬ (step_of s at ≡ Err DescriptorRunsPast) → step_code (step_of s at) % 2 ^ 8 ≡ 0
      to (Ok (Some d)) h e n = rw e (omega arith)
      to (Ok None) h e n = rw e (omega arith)
      to (Err k) h e n = absurd (n (e ∙ ap Err h.0))

pub step_alike : (s t : List ℕ) → Octets s → Octets t → (at : ℕ) → StepAlike s t at
step_alike s t b c at e = sym (comes_back s b at) ∙ (ap (step_in at) e ∙ comes_back t c at)

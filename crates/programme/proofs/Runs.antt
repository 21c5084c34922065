-- Laws of a run of counted descriptors.
--   run_none, run-next, run-over, run-refused     by how many are left, and the step at the place
--   run_lies                                      it ends where it begins or behind that, and within the bytes
use mathlib.Core.Path.{◌≡◌, refl, ap, ◌∙◌}
use mathlib.Core.List.{List}
use Prim.Native.Nat.{ℕ, zero, suc, ◌+◌, ◌-◌, ◌*◌, ◌<◌, ◌≤◌}
use native.Mathlib.Omega.{arith}
use lib.ListN.{length}
use Rattle.base.specs.Bytes.{byte}
use Rattle.descriptors.specs.declared.Descriptor.{Descriptor}
use Rattle.descriptors.specs.Loop.{Step, step_of}
use Rattle.descriptors.proofs.Steps.{reads-there}
use Rattle.std.specs.Prelude.{Ok, Err, Some, None}
use Rattle.refusal.specs.declared.Refusal.{Refusal}
use Rattle.programme.specs.Run.{run_of, behind}

module _ (s : List ℕ) (at : ℕ) where
  pub run_none : (n : ℕ) → n ≡ 0 → run_of n s at ≡ Some at
  unfolding run_of
  run_none n e = rw e

  -- one descriptor of a run
  run_step : (n : ℕ) → 0 < n → run_of n s at ≡ behind (step_of s at) (run_of (n - 1) s)
  unfolding run_of
  run_step zero h = absurd (omega arith)
  run_step (suc n) h = let e : suc n - 1 ≡ n = omega arith in rw e

  pub run-next : (n : ℕ) → 0 < n → (d : Descriptor) → step_of s at ≡ Ok (Some d) → run_of n s at ≡ run_of (n - 1) s d.next
  run-next n h d e = run_step n h ∙ rw e

  pub run-over : (n : ℕ) → 0 < n → step_of s at ≡ Ok None → run_of n s at ≡ None
  run-over n h e = run_step n h ∙ rw e

  pub run-refused : (n : ℕ) → 0 < n → (m : Refusal) → step_of s at ≡ Err m → run_of n s at ≡ None
  run-refused n h m e = run_step n h ∙ rw e

-- an answer that a run ends is no other
ends : (a b : ℕ) → Some a ≡ Some b → a ≡ b
ends a b e = cc

pub never_ends : {P : Type 0} (e : ℕ) → None ≡ Some e → P
never_ends e q = absurd (let z : ◌≡◌ {A = ℕ} 0 1 = cc in omega arith)

pub run_lies : (n : ℕ) (s : List ℕ) (at e : ℕ) → at ≤ length s → run_of n s at ≡ Some e → (at + 2 * n ≤ e) × (e ≤ length s)
unfolding run_of
run_lies zero s at e l q = let z : at ≡ e = ends at e q in (omega arith, omega arith)
run_lies (suc n) s at e l q = go (λ to. run_lies n s to e) (step_of s at) refl q
  where
    go : ((to : ℕ) → to ≤ length s → run_of n s to ≡ Some e → (to + 2 * n ≤ e) × (e ≤ length s))
        → (x : Step) → step_of s at ≡ x → behind x (run_of n s) ≡ Some e → (at + 2 * suc n ≤ e) × (e ≤ length s)
    go ih (Ok (Some d)) p r =
        let h = reads-there s at d p in
        let here : d.next ≡ at + 2 + byte s (at + 1) = ap (λ (x : Descriptor). x.next) h.here in
        let fits : at + 2 + byte s (at + 1) ≤ length s = h.ends in
        let rest = ih d.next (omega arith) r in
        let low : d.next + 2 * n ≤ e = rest.0 in
        (omega arith, rest.1)
    go ih (Ok None) p r = never_ends e r
    go ih (Err m) p r = never_ends e r

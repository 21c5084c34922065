-- When a loop of counted descriptors passes the end.
--   past-found     where its run is past, one of them does
--   found-past     and the other way
use mathlib.Core.Path.{◌≡◌, refl, sym, ap, ◌∙◌}
use mathlib.Core.List.{List}
use Prim.Native.Nat.{ℕ, zero, suc, ◌+◌, ◌-◌, ◌<◌, ◌≤◌}
use native.Mathlib.Nat.{suc-add, zero-add}
use native.Mathlib.Omega.{arith}
use lib.ListN.{length}
use Rattle.base.specs.Bytes.{byte}
use Rattle.std.specs.Prelude.{Ok, Err, Some, None}
use Rattle.refusal.specs.declared.Refusal.{Refusal}
use Rattle.descriptors.specs.declared.Descriptor.{Descriptor}
use Rattle.descriptors.specs.Loop.{Step, step_of}
use Rattle.descriptors.proofs.Steps.{Tells, step-tells, reads-there}
use Rattle.programme.specs.Run.{run_of, behind}
use Rattle.programme.proofs.Runs.{never_ends}
use Rattle.programme_laws.specs.Theorems.{LoopPasses}

-- where no descriptor is read, the one there passes the end
no-descriptor : (s : List ℕ) (at : ℕ) (x : Step) → Tells s at x → ((d : Descriptor) → x ≡ Ok (Some d) → ⊥) → length s < at + 2 + byte s (at + 1)
no-descriptor s at (Ok (Some d)) t n = absurd (n d refl)
no-descriptor s at (Ok None) t n = let e : at ≡ length s = t in omega arith
no-descriptor s at (Err m) t n = t.2

over_no : (d : Descriptor) → ◌≡◌ {A = Step} (Ok None) (Ok (Some d)) → ⊥
over_no d e = let z : ◌≡◌ {A = ℕ} 0 1 = cc in omega arith

refused-no : (m : Refusal) (d : Descriptor) → Err m ≡ Ok (Some d) → ⊥
refused-no m d e = let z : ◌≡◌ {A = ℕ} 0 1 = cc in omega arith

pub past-found : (n : ℕ) (s : List ℕ) (at : ℕ) → run_of n s at ≡ None → LoopPasses s n at
unfolding run_of
past-found zero s at e = never_ends at (sym e)
past-found (suc n) s at e = go (λ to. past-found n s to) (step_of s at) refl e
  where
    here : length s < at + 2 + byte s (at + 1) → LoopPasses s (suc n) at
    here p = record { before = 0; fewer = omega arith; at = at; ends = refl; passes = p }

    go : ((to : ℕ) → run_of n s to ≡ None → LoopPasses s n to)
        → (x : Step) → step_of s at ≡ x → behind x (run_of n s) ≡ None → LoopPasses s (suc n) at
    go ih (Ok (Some d)) q r =
        let w = ih d.next r in
        let few : w.before < n = w.fewer in
        record { before = suc w.before; fewer = omega arith; at = w.at; ends = rw q w.ends; passes = w.passes }
    go ih (Ok None) q r = here (no-descriptor s at (step_of s at) (step-tells s at) (λ d e. over_no d (sym q ∙ e)))
    go ih (Err m) q r = here (no-descriptor s at (step_of s at) (step-tells s at) (λ d e. refused-no m d (sym q ∙ e)))

-- a run goes on where a part of it ends
run_on : (a b : ℕ) (s : List ℕ) (at to : ℕ) → run_of a s at ≡ Some to → run_of (a + b) s at ≡ run_of b s to
unfolding run_of
run_on zero b s at to e = let z : at ≡ to = cc in rw (zero-add, z)
run_on (suc a) b s at to e = rw suc-add (go (λ p. run_on a b s p to) (step_of s at) e)
  where
    go : ((p : ℕ) → run_of a s p ≡ Some to → run_of (a + b) s p ≡ run_of b s to)
        → (x : Step) → behind x (run_of a s) ≡ Some to → behind x (run_of (a + b) s) ≡ run_of b s to
    go ih (Ok (Some d)) r = ih d.next r
    go ih (Ok None) r = never_ends to r
    go ih (Err m) r = never_ends to r

stuck : (n : ℕ) (s : List ℕ) (at : ℕ) → length s < at + 2 + byte s (at + 1) → run_of (suc n) s at ≡ None
unfolding run_of
stuck n s at h = go (step_of s at) refl
  where
    go : (x : Step) → step_of s at ≡ x → behind x (run_of n s) ≡ None
    go (Ok (Some d)) q = absurd (let r = reads-there s at d q in let f : at + 2 + byte s (at + 1) ≤ length s = r.ends in omega arith)
    go (Ok None) q = refl
    go (Err m) q = refl

pub found-past : (n : ℕ) (s : List ℕ) (at : ℕ) → LoopPasses s n at → run_of n s at ≡ None
found-past n s at w =
    let few : w.before < n = w.fewer in
    let split : n ≡ w.before + suc (n - w.before - 1) = omega arith in
    ap (λ m. run_of m s at) split
    ∙ run_on w.before (suc (n - w.before - 1)) s at w.at w.ends
    ∙ stuck (n - w.before - 1) s w.at w.passes

-- A walk of a loop: where no step is refused, its heads and views tile the loop; it ends within half as many steps as the
-- loop has bytes, and one more.
--   tiling         heads and views, joined in order, are the loop
--   empty_loop     an empty loop has no descriptor
--   few            a walk has no more answers than steps
--   settled        a walk of a loop is over or refused by then: more steps answer no more
use mathlib.Core.Path.{◌≡◌, refl, sym, ap, ◌∙◌}
use mathlib.Core.List.{List, ◌∷◌, ◌++◌}
use Prim.Native.Nat.{ℕ, zero, suc, ◌+◌, ◌*◌, ◌/◌, ◌%◌, ◌^◌, ◌<◌, ◌≤◌}
use native.Mathlib.Numerals.{add-one}
use native.Mathlib.Nat.{add-suc}
use native.Mathlib.Omega.{arith}
use lib.ListN.{length, drop, take-append-drop}
use lib.Seq.{drop-cons, drop-drop, drop-length}
use Rattle.base.specs.Bytes.{byte, part}
use Rattle.std.specs.Prelude.{Ok, Err, Some, None}
use Rattle.refusal.specs.Refusal.{number}
use Rattle.refusal.specs.declared.Refusal.TheVariants.{DescriptorRunsPast}
use Rattle.descriptors.specs.Loop.{Step, step_of, descriptor_at}
use Rattle.descriptors.specs.Walk.{onward, walk, Unrefused, tiles}
use Rattle.descriptors.specs.Theorems.{Few, Tiling, Settled, EmptyLoop}
use Rattle.descriptors.proofs.Steps.{Tells, step-tells}

module _ (s : List ℕ) where
  next : (at : ℕ) → at < length s → drop at s ≡ byte s at ∷ drop (at + 1) s
  next at h = rw (add-one, drop-cons s at 0)

  -- a descriptor in the loop: its head, its content, and what is behind it
  laid : (at n : ℕ) → at + 2 + n ≤ length s → byte s at ∷ (byte s (at + 1) ∷ (part s (at + 2) n ++ drop (at + 2 + n) s)) ≡ drop at s
  laid at n h =
      let e : at + 1 + 1 ≡ at + 2 = omega arith in
      sym
      (next at (omega arith)
      ∙ ap (λ l. byte s at ∷ l) (next (at + 1) (omega arith))
      ∙ rw (e, ← drop-drop n (at + 2) s, take-append-drop))

  tiling-from : (k at : ℕ) → at ≤ length s → length s < at + 2 * k → Unrefused (walk k s at) → tiles s (walk k s at) ≡ drop at s
  unfolding walk
  tiling-from zero at h l u = absurd (omega arith)
  tiling-from (suc k) at h l u = go (λ to. tiling-from k to) (step_of s at) (step-tells s at) u
    where
      go : ((to : ℕ) → to ≤ length s → length s < to + 2 * k → Unrefused (walk k s to) → tiles s (walk k s to) ≡ drop to s)
          → (x : Step) → Tells s at x → Unrefused (x ∷ onward x (λ to. walk k s to))
          → tiles s (x ∷ onward x (λ to. walk k s to)) ≡ drop at s
      go ih (Ok (Some d)) t v =
          let e : d ≡ descriptor_at s at = t.here in
          let f : at + 2 + byte s (at + 1) ≤ length s = t.ends in
          let w : Unrefused (walk k s (at + 2 + byte s (at + 1))) = rw e at v.1 in
          rw (e, ih (at + 2 + byte s (at + 1)) f (omega arith) w) (laid at (byte s (at + 1)) f)
      go ih (Ok None) t v = rw t (sym (drop-length s))
      go ih (Err r) t v = let z : number r % 2 ^ 8 ≡ 0 = v.0 in let y : number DescriptorRunsPast % 2 ^ 8 ≡ 0 = rw t.0 at z in absurd (omega arith)

  pub tiling : Tiling s
  tiling u = tiling-from (length s / 2 + 1) 0 (omega arith) (omega arith) u

  few-from : (k at : ℕ) → length (walk k s at) ≤ k
  unfolding walk
  few-from zero at = omega arith
  few-from (suc k) at = let h = go (λ to. few-from k to) (step_of s at) in omega arith
    where
      go : ((to : ℕ) → length (walk k s to) ≤ k) → (x : Step) → length (onward x (λ to. walk k s to)) ≤ k
      go ih (Ok (Some d)) = ih d.next
      go ih (Ok None) = omega arith
      go ih (Err n) = omega arith

  pub few : (at : ℕ) → Few s at
  few at k = few-from k at

  settled-from : (k j at : ℕ) → at ≤ length s → length s < at + 2 * k → walk (j + k) s at ≡ walk k s at
  unfolding walk
  settled-from zero j at h l = absurd (omega arith)
  settled-from (suc k) j at h l =
      rw add-suc (ap (λ xs. step_of s at ∷ xs) (go (λ to. settled-from k j to) (step_of s at) (step-tells s at)))
    where
      go : ((to : ℕ) → to ≤ length s → length s < to + 2 * k → walk (j + k) s to ≡ walk k s to)
          → (x : Step) → Tells s at x → onward x (λ to. walk (j + k) s to) ≡ onward x (λ to. walk k s to)
      go ih (Ok (Some d)) t =
          let e : d ≡ descriptor_at s at = t.here in
          let f : at + 2 + byte s (at + 1) ≤ length s = t.ends in
          rw e (ih (at + 2 + byte s (at + 1)) f (omega arith))
      go ih (Ok None) t = refl
      go ih (Err n) t = refl

  pub settled : Settled s
  settled j = settled-from (length s / 2 + 1) j 0 (omega arith) (omega arith)

pub empty_loop : EmptyLoop
unfolding walk step_of
empty_loop = refl

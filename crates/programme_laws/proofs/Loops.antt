-- Counted descriptors, written and read.
--   step-written     a descriptor that stands at a place is the step's there
--   run-written      descriptors that stand from a place on are a run that ends behind them
--   run-reads        a run that ends is of descriptors that stand there
--   counted          their bytes, walked by themselves, give so many, and then the walk is over
use mathlib.Core.Path.{◌≡◌, refl, sym, ap, ◌∙◌}
use mathlib.Core.List.{List, [], ◌∷◌, ◌++◌, append_assoc, append-nil}
use Prim.Native.Nat.{ℕ, zero, suc, ◌+◌, ◌-◌, ◌*◌, ◌/◌, ◌≤◌}
use native.Mathlib.Numerals.{add-one}
use native.Mathlib.Nat.{add-suc}
use native.Mathlib.Omega.{arith}
use lib.ListN.{length, drop, length-append}
use lib.Seq.{drop-cons, drop-drop}
use lib.ListN.{take-append-drop}
use Rattle.base.specs.Bytes.{byte, part}
use Rattle.base.specs.Octets.{Octets}
use Rattle.base.proofs.Bytes.{length_part, octets-part}
use Rattle.std.specs.Prelude.{Ok, Err, Some, None}
use Rattle.descriptors.specs.Loop.{Step, step_of, descriptor_at}
use Rattle.descriptors.specs.Walk.{walk, walk_of}
use Rattle.descriptors.proofs.Steps.{step_over, step-reads, reads-there}
use Rattle.programme.specs.Run.{run_of, behind}
use Rattle.programme.proofs.Runs.{never_ends}
use Rattle.programme_laws.specs.Walk.{Counted}
use Rattle.programme_laws.specs.Layout.{Descriptor, loop_bytes, FitLoop}
use Rattle.programme_laws.proofs.From.{From, long, after, next, byte_of, first_byte, from-there}

-- the bytes of a descriptor, and what is behind it
abbrev laid : Descriptor → List ℕ → List ℕ
laid d r = d.tag ∷ length d.content ∷ (d.content ++ r)

module _ {s : List ℕ} {at : ℕ} (d : Descriptor) (r : List ℕ) (f : From s at (laid d r)) where
  pub step-written : step_of s at ≡ Ok (Some (record { tag = d.tag; start = at + 2; length = length d.content; next = at + 2 + length d.content }))
  step-written =
      let tag : byte s at ≡ d.tag = first_byte d.tag (length d.content ∷ (d.content ++ r)) f in
      let size : byte s (at + 1) ≡ length d.content = byte_of f 1 in
      let ends : at + 2 + byte s (at + 1) ≤ length s = omega (arith, long f, length-append d.content r) in
      sym (step-reads s at ends) ∙ rw (tag, size)

  pub step-behind : From s (at + 2 + length d.content) r
  step-behind = let e : at + 1 + 1 ≡ at + 2 = omega arith in rw e at (after d.content r (next _ _ (next _ _ f)))

pub loop-nil : loop_bytes [] ≡ []
unfolding loop_bytes
loop-nil = refl

pub loop-more : (d : Descriptor) (ds : List Descriptor) (r : List ℕ) → loop_bytes (d ∷ ds) ++ r ≡ laid d (loop_bytes ds ++ r)
unfolding loop_bytes
loop-more d ds r = rw append_assoc

pub loop-long : (d : Descriptor) (ds : List Descriptor) → length (loop_bytes (d ∷ ds)) ≡ 2 + length d.content + length (loop_bytes ds)
unfolding loop_bytes
loop-long d ds = simp length-append (omega arith)

pub run-written : (ds : List Descriptor) {s : List ℕ} {at : ℕ} (r : List ℕ) → From s at (loop_bytes ds ++ r)
    → run_of (length ds) s at ≡ Some (at + length (loop_bytes ds))
unfolding run_of
run-written [] {s} {at} r f = let e : at + length (loop_bytes []) ≡ at = rw loop-nil (omega arith) in rw e
run-written (d ∷ ds) {s} {at} r f =
    let g : From s at (laid d (loop_bytes ds ++ r)) = rw (loop-more d ds r) at f in
    let e : at + 2 + length d.content + length (loop_bytes ds) ≡ at + length (loop_bytes (d ∷ ds)) = omega (arith, loop-long d ds) in
    rw (step-written d (loop_bytes ds ++ r) g) (run-written ds r (step-behind d (loop_bytes ds ++ r) g) ∙ ap Some e)

-- the descriptors of a run that ends
pub record Written (n : ℕ) (s : List ℕ) (at end : ℕ) : Type 0 where
  pub loop : List Descriptor
  pub many : length loop ≡ n
  pub fits : FitLoop loop
  pub bytes : drop at s ≡ loop_bytes loop ++ drop end s

ends : (a b : ℕ) → Some a ≡ Some b → a ≡ b
ends a b e = cc

pub run-reads : (n : ℕ) (s : List ℕ) → Octets s → (at end : ℕ) → run_of n s at ≡ Some end → Written n s at end
unfolding run_of
run-reads zero s b at end e =
    record { loop = []; many = refl; fits = tt; bytes = rw (loop-nil, ends at end e) }
run-reads (suc n) s b at end e = go (λ to. run-reads n s b to end) (step_of s at) refl e
  where
    go : ((to : ℕ) → run_of n s to ≡ Some end → Written n s to end)
        → (x : Step) → step_of s at ≡ x → behind x (run_of n s) ≡ Some end → Written (suc n) s at end
    go ih (Ok (Some d)) q r =
        let h = reads-there s at d q in
        let here : d ≡ descriptor_at s at = h.here in
        let fits : at + 2 + byte s (at + 1) ≤ length s = h.ends in
        let rest : Written n s (at + 2 + byte s (at + 1)) end = ih (at + 2 + byte s (at + 1)) (rw here at r) in
        let one : Descriptor = record { tag = byte s at; content = part s (at + 2) (byte s (at + 1)) } in
        let sized : length (part s (at + 2) (byte s (at + 1))) ≡ byte s (at + 1) = length_part s (at + 2) (byte s (at + 1)) fits in
        let first : drop at s ≡ byte s at ∷ drop (at + 1) s = rw add-one (drop-cons s at 0 (omega arith)) in
        let second : drop (at + 1) s ≡ byte s (at + 1) ∷ drop (at + 2) s
        = (let e : suc (at + 1) ≡ at + 2 = omega arith in rw e at (drop-cons s (at + 1) 0 (omega arith))) in
        let content : drop (at + 2) s ≡ part s (at + 2) (byte s (at + 1)) ++ drop (at + 2 + byte s (at + 1)) s
        = sym (take-append-drop (byte s (at + 1)) (drop (at + 2) s)) ∙ ap (λ l. part s (at + 2) (byte s (at + 1)) ++ l) (drop-drop (byte s (at + 1)) (at + 2) s) in
        record {
          loop = one ∷ rest.loop;
          many = ap suc rest.many;
          fits =
              (record { tag = b at; long = rw sized (b (at + 1)); bytes = octets-part s (at + 2) (byte s (at + 1)) b }, rest.fits);
          bytes =
              first
              ∙ ap (λ l. byte s at ∷ l) (second ∙ ap (λ l. byte s (at + 1) ∷ l) (content ∙ ap (λ l. part s (at + 2) (byte s (at + 1)) ++ l) rest.bytes))
              ∙ sym (loop-more one rest.loop (drop end s) ∙ rw sized);
        }
    go ih (Ok None) q r = never_ends end r
    go ih (Err m) q r = never_ends end r

-- half as many descriptors as bytes, at most
loop-few : (ds : List Descriptor) → 2 * length ds ≤ length (loop_bytes ds)
loop-few [] = omega arith
loop-few (d ∷ ds) = omega (arith, loop-few ds, loop-long d ds)

counted-from : (ds : List Descriptor) (j : ℕ) {v : List ℕ} {at : ℕ} → From v at (loop_bytes ds) → Counted (length ds) (walk (j + suc (length ds)) v at)
unfolding walk
counted-from [] j {v} {at} f =
    let end : at ≡ length v = (let e : length (loop_bytes []) ≡ 0 = ap length loop-nil in omega (arith, long f)) in
    let e : j + 1 ≡ suc j = omega arith in
    rw (e, ← step_over v at end)
counted-from (d ∷ ds) j {v} {at} f =
    let g : From v at (laid d (loop_bytes ds ++ [])) = rw (loop-more d ds []) at (rw (← append-nil (loop_bytes (d ∷ ds))) at f) in
    let rest : From v (at + 2 + length d.content) (loop_bytes ds) = rw append-nil at (step-behind d (loop_bytes ds ++ []) g) in
    rw (add-suc, step-written d (loop_bytes ds ++ []) g) (counted-from ds j rest)

pub counted : (ds : List Descriptor) → Counted (length ds) (walk_of (loop_bytes ds))
counted ds =
    let few : 2 * length ds ≤ length (loop_bytes ds) = loop-few ds in
    let enough : length (loop_bytes ds) / 2 + 1 ≡ (length (loop_bytes ds) / 2 - length ds) + suc (length ds) = omega arith in
    rw enough (counted-from ds (length (loop_bytes ds) / 2 - length ds) (from-there (loop_bytes ds) 0 (omega arith)))

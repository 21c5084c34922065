-- Items that are put one after the other.
--   chain-none, chain_next, chain-short      by what stands at a place
--   Going, begins, goes_on, stops, ends      what the loop that tells them keeps
--   tells-early, tells-beyond                from a place where none can begin
use mathlib.Core.Path.{◌≡◌, refl, sym, ap, ◌∙◌}
use mathlib.Core.List.{List, [], ◌∷◌, ◌++◌}
use Prim.Native.Nat.{ℕ, zero, suc, ◌+◌, ◌-◌, ◌*◌, ◌<◌, ◌≤◌}
use native.Mathlib.Omega.{arith}
use lib.ListN.{length, drop, set}
use lib.Seq.{sets, sets-eq, length-sets}
use Rattle.std.specs.Prelude.{Ok, Err, Some, None}
use Rattle.refusal.specs.declared.Refusal.{Refusal}
use Rattle.refusal.specs.declared.Refusal.TheVariants.{ProgrammePassesEnd}
use Rattle.answers.specs.Answers.{Out, out}
use Rattle.programme.specs.Table.{content_descriptors_at}
use Rattle.programme.specs.Reading.{Step, item_at}
use Rattle.programme_items.specs.Items.{onward, numbers_of, all_numbers}
use Rattle.programme_items.specs.Parts.{lies_of, numbers_to, chain, told_by}
use Rattle.programme.specs.declared.Item.{Item}
use Rattle.programme_items.specs.declared.Parts.{Parts}
use Rattle.programme.proofs.Items.{item_to, item-early, item-cut}
use Rattle.programme_items.proofs.Places.{parts-there, lies-item, lies-none}

module _ (s : List ℕ) (at : ℕ) where
  pub chain-none : (n : ℕ) (m : Refusal) → Err m ≡ item_at s at → chain n s at ≡ []
  unfolding chain
  chain-none zero m e = refl
  chain-none (suc n) m e = rw (sym e)

  pub chain_next : (n : ℕ) → 0 < n → (i : Item) → Ok (Some i) ≡ item_at s at → chain n s at ≡ i ∷ chain (n - 1) s i.next
  unfolding chain
  chain_next zero h i e = absurd (omega arith)
  chain_next (suc n) h i e = let z : suc n - 1 ≡ n = omega arith in rw (sym e, z)

pub chain-zero : (s : List ℕ) (at n : ℕ) → n ≡ 0 → chain n s at ≡ []
unfolding chain
chain-zero s at n e = rw e

pub chain-short : (n : ℕ) (s : List ℕ) (at : ℕ) → length (chain n s at) ≤ n
unfolding chain
chain-short zero s at = omega arith
chain-short (suc n) s at = go (λ to. chain-short n s to) (item_at s at)
  where
    go : ((to : ℕ) → length (chain n s to) ≤ n) → (x : Step) → length (onward x (λ i. chain n s i.next)) ≤ suc n
    go ih (Ok (Some i)) = let h : length (chain n s i.next) ≤ n = ih i.next in omega arith
    go ih (Ok None) = omega arith
    go ih (Err m) = omega arith

pub all-long : (is : List Item) → length (all_numbers is) ≡ 10 * length is
unfolding all_numbers
all-long [] = refl
all-long (i ∷ is) = let h : length (all_numbers is) ≡ 10 * length is = all-long is in omega arith

-- stores of one list and then of another are those of both
sets-append : (f : List ℕ) (to : ℕ) (xs ys : List ℕ) → sets f to (xs ++ ys) ≡ sets (sets f to xs) (to + length xs) ys
sets-append f to [] ys = let z : to + 0 ≡ to = omega arith in rw z
sets-append f to (x ∷ xs) ys = let z : suc to + length xs ≡ to + suc (length xs) = omega arith in sets-append (set f to x) (suc to) xs ys ∙ rw z

-- how many numbers there are, and what they are, once the items are put from a place on
abbrev filled : List Item → List ℕ → ℕ → Out
filled is f to = out (to + 10 * length is) (sets f to (all_numbers is))

filled_none : (f : List ℕ) (to : ℕ) → filled [] f to ≡ out to f
unfolding all_numbers
filled_none f to = let z : to + 0 ≡ to = omega arith in rw z

filled_next : (i : Item) (is : List Item) (f : List ℕ) (to : ℕ) → filled (i ∷ is) f to ≡ filled is (sets f to (numbers_of i)) (to + 10)
unfolding all_numbers
filled_next i is f to =
    let z : to + 10 * suc (length is) ≡ to + 10 + 10 * length is = omega arith in rw (z, sets-append f to (numbers_of i) (all_numbers is))

filled-told : (is : List Item) (f : List ℕ) → 10 * length is ≤ length f → filled is f 0 ≡ told_by f is
filled-told is f l =
    let long : length (all_numbers is) ≡ 10 * length is = all-long is in
    let z : 0 + 10 * length is ≡ 10 * length is = omega arith in
    let w : 0 + length (all_numbers is) ≡ 10 * length is = omega arith in
    let h : 0 + length (all_numbers is) ≤ length f = omega arith in
    ap (λ n. out n (sets f 0 (all_numbers is))) z
    ∙ ap (out (10 * length is)) (sets-eq (all_numbers is) f 0 h ∙ ap (λ n. all_numbers is ++ drop n f) w)

-- what the loop keeps: once what is left is put, all is put
pub record Going (s : List ℕ) (at most : ℕ) (f₀ f : List ℕ) (place left to : ℕ) : Type 0 where
  pub late : 17 ≤ place
  pub within : place ≤ length s
  pub room : to + 10 * left ≤ length f
  pub long : length f ≡ length f₀
  pub done : filled (chain left s place) f to ≡ filled (chain most s at) f₀ 0

module _ (s : List ℕ) (at most : ℕ) (f₀ : List ℕ) (r : 10 * most ≤ length f₀) where
  whole : filled (chain most s at) f₀ 0 ≡ told_by f₀ (chain most s at)
  whole = let h : length (chain most s at) ≤ most = chain-short most s at in filled-told (chain most s at) f₀ (omega arith)

  pub begins : 17 ≤ at → at ≤ length s → Going s at most f₀ f₀ at most 0
  begins a l = record { late = a; within = l; room = omega arith; long = refl; done = refl }

  module _ {f : List ℕ} {place left to : ℕ} (g : Going s at most f₀ f place left to) where
    pub goes_on : 0 < left → (p : Parts) → Some p ≡ lies_of s place → {f₁ : List ℕ} → f₁ ≡ sets f to (numbers_to s place p.next)
        → Going s at most f₀ f₁ p.next (left - 1) (to + 10)
    goes_on h p e q =
        let t = parts-there s place p e in
        let low : content_descriptors_at s place ≤ p.next = t.low in
        let late : 17 ≤ place = g.late in
        let room : to + 10 * left ≤ length f = g.room in
        let size : length (sets f to (numbers_to s place p.next)) ≡ length f = length-sets f to (numbers_to s place p.next) in
        record {
          late = omega arith;
          within = t.high;
          room = rw (q, size) (omega arith);
          long = rw (q, size) g.long;
          done =
              rw q
              (sym (filled_next (item_to s place p.next) (chain (left - 1) s p.next) f to)
              ∙ ap (λ is. filled is f to) (sym (chain_next s place left h (item_to s place p.next) (lies-item s place late p e)))
              ∙ g.done);
        }

    ended : chain left s place ≡ [] → out to f ≡ told_by f₀ (chain most s at)
    ended e = sym (filled_none f to) ∙ ap (λ is. filled is f to) (sym e) ∙ g.done ∙ whole

    pub stops : None ≡ lies_of s place → out to f ≡ told_by f₀ (chain most s at)
    stops e = ended (chain-none s place left ProgrammePassesEnd (lies-none s place e))

    pub ends : left ≤ 0 → out to f ≡ told_by f₀ (chain most s at)
    ends l = ended (chain-zero s place left (omega arith))

  tells_none : Err ProgrammePassesEnd ≡ item_at s at → out 0 f₀ ≡ told_by f₀ (chain most s at)
  unfolding all_numbers
  tells_none e = rw (chain-none s at most ProgrammePassesEnd e)

  pub tells-early : at < 17 → out 0 f₀ ≡ told_by f₀ (chain most s at)
  tells-early l = tells_none (item-early s at l)

  pub tells-beyond : length s < at → out 0 f₀ ≡ told_by f₀ (chain most s at)
  tells-beyond l = tells_none (item-cut s at (omega arith))

-- Laws on what is kept.
--   only-append, kept_append     what is kept of two lists, one after the other
--   keep-none, none_kept         none is kept of none
--   keep-more, keep-less, keep-put, keep-many     one more is kept, or is forgotten
--   keep-words                   the words once all are passed
use mathlib.Core.Path.{◌≡◌, refl, ap, ◌∙◌}
use mathlib.Core.Bool.{Bool, true, false, not}
use mathlib.Core.List.{List, [], ◌∷◌, ◌++◌, map, append-nil}
use Prim.Native.Nat.{ℕ, ◌+◌, ◌*◌, ◌<◌}
use native.Mathlib.Numerals.{add-one}
use native.Mathlib.Omega.{arith}
use lib.ListN.{length, take, get_or, set, replicate, length-append}
use lib.Seq.{take-suc}
use Rattle.base.proofs.Cases.{by}
use Rattle.clock_activation.specs.declared.Held.{Held}
use Rattle.clock_activation.specs.Activation.{nobody}
use Rattle.clock_activation.specs.Places.{mark_of}
use Rattle.clock_record.specs.Lists.{only_of}
use Rattle.clock_record.specs.Words.{pairs, words_with}
use Rattle.clock_record.proofs.Lists.{map-append}
use Rattle.clock_keep.specs.Keep.{moved, forgotten, kept_of}
use Rattle.clock_keep.proofs.Puts.{place-put}

pub only-append : {A : Type 0} (p : A → Bool) (l r : List A) → only_of p (l ++ r) ≡ only_of p l ++ only_of p r
unfolding only_of
only-append p [] r = refl
only-append p (x ∷ l) r =
    by (p x)
    (λ t. rw t (ap (◌∷◌ x) (only-append p l r)))
    (λ f. rw f (only-append p l r))

pub kept_append : (to : ℕ) (l r : List Held) → kept_of to (l ++ r) ≡ kept_of to l ++ kept_of to r
unfolding kept_of
kept_append to l r = rw (map-append (moved to) l r) (only-append (λ h. not (forgotten to h)) (map (moved to) l) (map (moved to) r))

module _ (to : ℕ) (held : List Held) (i : ℕ) (inside : i < length held) where
  one_more : kept_of to (take (i + 1) held) ≡ kept_of to (take i held) ++ kept_of to (get_or held i nobody ∷ [])
  one_more = rw (add-one, take-suc held i nobody inside) (kept_append to (take i held) (get_or held i nobody ∷ []))

  pub keep-less : forgotten to (moved to (get_or held i nobody)) ≡ true → kept_of to (take (i + 1) held) ≡ kept_of to (take i held)
  unfolding kept_of only_of
  keep-less t = one_more ∙ rw t (append-nil _)

  pub keep-more : forgotten to (moved to (get_or held i nobody)) ≡ false
      → kept_of to (take (i + 1) held) ≡ kept_of to (take i held) ++ (moved to (get_or held i nobody) ∷ [])
  unfolding kept_of only_of
  keep-more f = one_more ∙ rw f

-- a move that holds nothing yet, in words
pub keep-none : (to : ℕ) → replicate 67 0 ≡ 0 ∷ 0 ∷ 0 ∷ pairs 32 (kept_of to [])
unfolding pairs kept_of only_of
keep-none to = refl

pub none_kept : (to : ℕ) → 0 ≡ length (kept_of to [])
unfolding kept_of only_of
none_kept to = refl

module _ (to : ℕ) (held : List Held) (i : ℕ) (inside : i < length held) (next : List ℕ) (kept : ℕ) (few : kept < 32)
    (many : kept ≡ length (kept_of to (take i held))) (so : next ≡ 0 ∷ 0 ∷ 0 ∷ pairs 32 (kept_of to (take i held)))
    (f : forgotten to (moved to (get_or held i nobody)) ≡ false) where
  pub keep-put : (h : Held) (m : ℕ) → h ≡ moved to (get_or held i nobody) → m ≡ mark_of h
      → set (set next (3 + 2 * kept) h.activation.time) (4 + 2 * kept) m ≡ 0 ∷ 0 ∷ 0 ∷ pairs 32 (kept_of to (take (i + 1) held))
  keep-put h m e g =
      rw (so, g, e, keep-more to held i inside f)
      (place-put 0 0 0 (kept_of to (take i held)) (moved to (get_or held i nobody)) kept many few)

  pub keep-many : kept + 1 ≡ length (kept_of to (take (i + 1) held))
  keep-many = rw (keep-more to held i inside f) (simp length-append (omega arith))

pub keep-words : (to states kept : ℕ) (next : List ℕ) (hs : List Held) → next ≡ 0 ∷ 0 ∷ 0 ∷ pairs 32 hs → kept ≡ length hs
    → set (set (set next 0 to) 1 states) 2 kept ≡ words_with to states hs
unfolding words_with
keep-words to states kept next hs so many = rw (so, many)

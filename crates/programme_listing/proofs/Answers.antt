-- A host loses nothing by the answer in one number (`specs/Theorems.antt` has the words).
--   one_listing, list_comes_back, list_fills
--   list-told        what listing promised, told in this number
use mathlib.Core.Path.{◌≡◌, refl, sym, ap, ◌∙◌}
use mathlib.Core.List.{List}
use Prim.Native.Nat.{ℕ, ◌%◌, ◌^◌, ◌<◌, ◌≤◌}
use native.Mathlib.Omega.{arith}
use lib.Dec.{ltb}
use lib.ListN.{length}
use borrow.Author.Tests.{ltb-true, ltb-false, eq-eqb}
use Rattle.base.proofs.Cases.{by}
use Rattle.answers.specs.Answers.{out, size_or}
use Rattle.programme_listing.specs.Listing.{text_of, listing, list_of}
use Rattle.programme_listing.specs.Answer.{long_code, listed_code, list_out, list_lent}
use Rattle.programme_listing.specs.Theorems.{OneListing, ListComesBack, ListFills}
use Rattle.std.specs.Prelude.{Result, Ok, Err}
use Rattle.refusal.specs.declared.Refusal.{Refusal}
use Rattle.refusal.specs.Refusal.{refusal_of}

pub long-back : {A : Type 0} (bytes refused : ℕ → A) (n : ℕ) → size_or bytes refused (long_code n) ≡ bytes n
long-back bytes refused n = rw (eq-eqb (long_code n % 2 ^ 8) 0 (omega arith)) (ap bytes (omega arith))

module _ (file old : List ℕ) where
  pub one_listing : OneListing file old
  one_listing r q after after' e f = (ap (λ l. l.said) (e ∙ sym f), ap (λ l. l.out) (e ∙ sym f))

  pub list_comes_back : ListComesBack file old
  unfolding list_lent list_of
  list_comes_back =
      by (ltb (length old) (length (text_of file)))
      (λ t. rw t)
      (λ f. rw f (long-back Ok (λ n. Err (refusal_of n)) (length (text_of file))))

  pub list_fills : ListFills file old
  unfolding list_lent list_of
  list_fills =
      by (ltb (length old) (length (text_of file)))
      (λ t.
      let short : length old < length (text_of file) = ltb-true _ _ t in
      rw t
      (record {
        untouched = λ _. refl;
        accepted = (λ z. absurd (omega arith), λ l. absurd (omega arith));
        stands = λ z. absurd (omega arith);
        size = λ z. absurd (omega arith);
      }))
      (λ f.
      let room : length (text_of file) ≤ length old = ltb-false _ _ f in
      rw f
      (record {
        untouched = λ n. absurd (n (omega arith));
        accepted = (λ _. room, λ _. omega arith);
        stands = λ _. refl;
        size = λ _. omega arith;
      }))

pub list-told : (file o o' : List ℕ) (r : Result ℕ Refusal) (code : ℕ) → listing r o' ≡ list_of file o → code ≡ listed_code r → out code o' ≡ list_lent file o
unfolding list_lent
list-told file o o' r code e q = ap (λ n. out n o') q ∙ ap list_out e

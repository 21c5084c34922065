-- What is saved from a store of bytes is of bytes.
--   octets-saved
use Rattle.std.specs.Prelude.{if◌then◌else◌}
use mathlib.Core.Bool.{Bool}
use mathlib.Core.List.{List, [], ◌∷◌, ◌++◌}
use Prim.Native.Nat.{ℕ, zero, suc, ◌+◌, ◌/◌, ◌%◌, ◌<◌, ◌≤◌}
use native.Mathlib.Omega.{arith}
use lib.Dec.{ltb}
use lib.ListN.{length, length-append, length-take, length-drop}
use borrow.Author.Tests.{ltb-true, ltb-false}
use Rattle.base.specs.Octets.{Octets}
use Rattle.base.proofs.Bytes.{octets-part}
use Rattle.base.proofs.Cases.{by}
use Rattle.berth.specs.Berth.{berth_size, begins_at, sections, places, standing}
use Rattle.shelf.specs.Record.{place_at, holds, length_at, place_of}
use Rattle.key.specs.declared.Key.{Key}
use Rattle.file_number.specs.Number.{spelt}
use Rattle.file_number.proofs.Spelling.{spelt-1, spelt-2, spelt-3}
use Rattle.file.specs.Layout.{listed, file_of, chosen}
use Rattle.shelf_laws.specs.State.{State}
use Rattle.shelf_laws.proofs.Kept.{Good}
use Rattle.shelf_laws.proofs.Asked.{length_most}
use Rattle.file_round.specs.Round.{bytes_at}
use Rattle.file_round.proofs.Saved.{file_from}
use Rattle.shelf_laws.proofs.Asked.{file-held}
use Rattle.shelf_laws.proofs.Octets.{octets-nil, octets-cons, octets-append}

-- a number below 65,536 is written in bytes
octets-spelt : (n : ℕ) → n < 65536 → Octets (spelt n)
octets-spelt n h =
    by (ltb n 128)
    (λ t. let l : n < 128 = ltb-true _ _ t in rw (spelt-1 n l) (octets-cons n [] (omega arith) octets-nil))
    (λ f.
    let m : 128 ≤ n = ltb-false _ _ f in
    by (ltb (n / 128) 128)
    (λ t.
    let l : n / 128 < 128 = ltb-true _ _ t in
    rw (spelt-2 n m l) (octets-cons (128 + n % 128) (n / 128 ∷ []) (omega arith) (octets-cons (n / 128) [] (omega arith) octets-nil)))
    (λ u.
    let l : 128 ≤ n / 128 = ltb-false _ _ u in
    let g : n / 128 / 128 < 256 = omega arith in
    rw (spelt-3 n m l)
    (octets-cons (128 + n % 128) ((128 + n / 128 % 128) ∷ n / 128 / 128 ∷ []) (omega arith)
    (octets-cons (128 + n / 128 % 128) (n / 128 / 128 ∷ []) (omega arith) (octets-cons (n / 128 / 128) [] g octets-nil)))))

-- sections of bytes, each below 65,536
abbrev AllOctets : List (List ℕ) → Type 0
AllOctets [] = Unit {0}
AllOctets (s ∷ ss) = Octets s × (length s < 65536) × AllOctets ss

all_append : (a b : List (List ℕ)) → AllOctets a → AllOctets b → AllOctets (a ++ b)
all_append [] b o p = p
all_append (s ∷ a) b o p = (o.0, o.1, all_append a b o.2 p)

octets-listed : (ss : List (List ℕ)) → AllOctets ss → Octets (listed ss)
unfolding listed
octets-listed [] o = octets-nil
octets-listed (s ∷ ss) o =
    octets-append (spelt (length s)) (s ++ listed ss) (octets-spelt (length s) o.1) (octets-append s (listed ss) o.0 (octets-listed ss o.2))

module _ (picks : ℕ → Bool) (each : ℕ → List ℕ) (o : (n : ℕ) → Octets (each n)) (few : (n : ℕ) → length (each n) < 65536) where
  all-chosen : (n : ℕ) → AllOctets (chosen n picks each)
  unfolding chosen
  all-chosen zero = tt
  all-chosen (suc n) =
      all_append (chosen n picks each) (if picks n then each n ∷ [] else []) (all-chosen n)
      (by (picks n) (λ t. rw t (o n, few n, tt)) (λ f. rw f tt))

  chosen-length : (n : ℕ) → length (chosen n picks each) ≤ n
  unfolding chosen
  chosen-length zero = omega arith
  chosen-length (suc n) =
      let h : length (chosen n picks each) ≤ n = chosen-length n in
      by (picks n) (λ t. rw t (simp length-append (omega arith))) (λ f. rw f (simp length-append (omega arith)))

  octets-file : (n : ℕ) → n ≤ 16 → Octets (file_of (chosen n picks each))
  unfolding file_of
  octets-file n l =
      let h : length (chosen n picks each) ≤ n = chosen-length n in
      octets-append (spelt 1) _ (octets-spelt 1 (omega arith))
      (octets-append (spelt (length (chosen n picks each))) (listed (chosen n picks each))
      (octets-spelt (length (chosen n picks each)) (omega arith)) (octets-listed (chosen n picks each) (all-chosen n)))

module _ (s : State) (g : Good s) (o : Octets s.store) (key : Key) (i : place_of s.shelf key < places) where
  stands : (n : ℕ) → Octets (bytes_at s (place_of s.shelf key) n)
  unfolding standing
  stands n =
      octets-part s.store (begins_at berth_size (place_of s.shelf key) n) (length_at (place_at s.shelf (place_of s.shelf key)) n) o

  few : (n : ℕ) → length (bytes_at s (place_of s.shelf key) n) < 65536
  unfolding standing
  few n =
      let h : length_at (place_at s.shelf (place_of s.shelf key)) n < 65536 = length_most s g key i n in
      simp (length-take, length-drop) (omega arith)

  pub octets-saved : Octets (file_from s key)
  octets-saved =
      rw (file-held s key)
      (octets-file (holds (place_at s.shelf (place_of s.shelf key))) (bytes_at s (place_of s.shelf key)) stands few sections (omega arith))

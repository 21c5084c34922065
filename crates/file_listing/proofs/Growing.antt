-- How a text grows.
--   nothing, one, word     by nothing, one byte, or a word
--   then                   one text after another is their join
use mathlib.Core.Path.{◌≡◌, sym, ap, subst, ◌∙◌}
use mathlib.Core.List.{List, [], ◌∷◌, ◌++◌, append_assoc, append-nil}
use Prim.Native.Nat.{ℕ, ◌+◌, ◌/◌, ◌%◌, ◌<◌, ◌≤◌}
use native.Mathlib.Numerals.{add-one}
use native.Mathlib.Omega.{arith}
use lib.ListN.{length, take, set, length-append}
use lib.Seq.{take-suc-set, take_at, take-length, length-take-le}
use borrow.Rule.Slice.PartMut.{put_mid, post_of}
use borrow.Author.Tests.{lt-leb, le-leb}
use Rattle.file_listing.specs.Words.{place}
use Rattle.file_listing.specs.Growing.{shown, Grew}
use Rattle.file_listing.specs.declared.Text.{Text}

abbrev text : List ℕ → ℕ → Text
text bytes size = record { bytes = bytes; size = size }

pub nothing : (t : Text) (most : ℕ) → Grew [] most t t
nothing t most = record { shows = sym (append-nil (shown t)); within = omega arith }

pub one : (t : Text) (x : ℕ) → t.size < length t.bytes → Grew (x ∷ []) 1 t (text (set t.bytes t.size x) (t.size + 1))
one t x l = record { shows = rw add-one (take-suc-set t.bytes t.size x l); within = omega arith }

pub word : (t : Text) (w rest : List ℕ) → t.size ≤ length t.bytes
    → Grew w (length w) t (text (take t.size t.bytes ++ (w ++ rest)) (t.size + length w))
word t w rest l =
    record {
      shows =
          ap (take (t.size + length w)) (sym (append_assoc (shown t) w rest))
          ∙ take_at (shown t ++ w) rest (t.size + length w)
          (length-append (shown t) w ∙ ap (λ n. n + length w) (length-take-le t.size t.bytes l));
      within = omega arith;
    }

pub then : {s w : List ℕ} {m k : ℕ} {t u r : Text} → Grew s m t u → Grew w k u r → Grew (s ++ w) (m + k) t r
then {s} {w} {m} {k} {t} {u} {r} v x =
    record {
      shows = x.shows ∙ ap (λ l. l ++ w) v.shows ∙ append_assoc (shown t) s w;
      within = (let a : u.size ≤ t.size + m = v.within in let b : r.size ≤ u.size + k = x.within in omega arith);
    }

-- the part of the bytes from the text's end on comes back with the word at its front
pub lent : (t : Text) (k : ℕ) (ys w rest : List ℕ) → t.size ≤ length t.bytes → ys ≡ take (length w) w ++ rest
    → Grew w (length w) t (text (put_mid t.size k t.bytes ys) (t.size + length w))
lent t k ys w rest l e =
    let back : put_mid t.size k t.bytes ys ≡ shown t ++ (w ++ (rest ++ post_of t.size k t.bytes))
    = ap (put_mid t.size k t.bytes) (e ∙ ap (λ l. l ++ rest) (take-length w))
    ∙ ap (λ l. shown t ++ l) (append_assoc w rest (post_of t.size k t.bytes)) in
    subst (λ b. Grew w (length w) t (text b (t.size + length w))) (sym back) (word t w (rest ++ post_of t.size k t.bytes) l)

module _ (power n : ℕ) (t : Text) where
  pub not-reached : n < power → Grew (place power n) 1 t t
  unfolding place
  not-reached l = rw (lt-leb power n l) (nothing t 1)

  pub reached : (r : Text) → power ≤ n → Grew ((48 + n / power % 10) ∷ []) 1 t r → Grew (place power n) 1 t r
  unfolding place
  reached r l g = rw (le-leb power n l) g

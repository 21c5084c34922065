-- Each way out of the calls about an NRT-IT section.
--   read_refused, read_short, read-put
--   lent
use mathlib.Core.Path.{◌≡◌, sym, ap, ◌∙◌}
use mathlib.Core.List.{List, ◌++◌}
use Prim.Native.Nat.{ℕ, ◌<◌, ◌≤◌}
use lib.ListN.{length, drop}
use Rattle.answers.specs.Answers.{out, puts}
use Rattle.answers.proofs.Puts.{puts-refused, puts-short, puts-values}
use Rattle.std.specs.Prelude.{Ok, Err}
use Rattle.refusal.specs.Refusal.{number}
use Rattle.refusal.specs.declared.Refusal.{Refusal}
use Rattle.programme.specs.Reading.{read_of}
use Rattle.programme.specs.Answer.{reading_told, programme_numbers}
use Rattle.programme.specs.declared.Programme.{Programme}
use Rattle.programme_items.specs.Items.{Walk, walked, walk_of}
use Rattle.programme_answers.specs.Lent.{read_lent, walk_code, walk_lent, items_lent}

module _ (s fields : List ℕ) where
  pub read_refused : {n : Refusal} {m : ℕ} → m ≡ number n → read_of s ≡ Err n → out m fields ≡ read_lent s fields
  unfolding read_lent
  read_refused {n} q e = rw (q, e) (puts-refused (number n) fields)

  module _ (p : Programme) (e : read_of s ≡ Ok p) where
    pub read_short : length fields < 4 → out 15 fields ≡ read_lent s fields
    unfolding read_lent
    read_short h = rw e (puts-short (programme_numbers p) fields h)

    pub read-put : 4 ≤ length fields → {after : List ℕ} → after ≡ programme_numbers p ++ drop 4 fields → out 0 after ≡ read_lent s fields
    unfolding read_lent
    read-put h q = ap (out 0) q ∙ puts-values (programme_numbers p) fields h ∙ ap (λ r. puts (reading_told r) fields) (sym e)

-- a call for items, by what it answers
module _ (s : List ℕ) (at k : ℕ) (fields : List ℕ) {w : Walk} {after : List ℕ} (e : walked w after ≡ walk_of s at k fields) where
  pub lent : {m : ℕ} → m ≡ walk_code w → out m after ≡ items_lent s at k fields
  unfolding items_lent
  lent q = ap (λ n. out n after) q ∙ ap walk_lent e

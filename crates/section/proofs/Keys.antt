-- The key of a section's table (`specs/Theorems.antt` has the words).
--   key-built               as the code builds it
--   of_other, of-list       what is so of an NRT-IT, by whether the table is one
--   key-id, key-further     the table id and the extension of every key
--   key_fits                of bytes, the numbers of a key fit their bits
--   lists_told_apart, others_told_apart   which sections are of one table
use mathlib.Core.Path.{◌≡◌, sym, ap, ◌∙◌}
use mathlib.Core.List.{List}
use Prim.Native.Nat.{ℕ, ◌<◌}
use native.Mathlib.Omega.{arith}
use lib.Dec.{eqb}
use borrow.Author.Tests.{eq-eqb, ne_eqb, eqb-true, eqb-false}
use Rattle.base.specs.Bytes.{word}
use Rattle.base.specs.Octets.{Octets}
use Rattle.base.proofs.Bytes.{word_fits}
use Rattle.base.proofs.Cases.{by}
use Rattle.key.specs.Key.{nrt_it, key_from}
use Rattle.key.proofs.Keys.{key-other, key-list, begins_with, others_by_extension, lists_by_all}
use Rattle.section.specs.Section.{table_id, table_id_extension, service_id, time_span_start, of_list, key_in}
use Rattle.section.specs.Theorems.{FitsKey, ListsToldApart, OthersToldApart}

pub of_other : (n table : ℕ) → ¬ (table ≡ nrt_it) → 0 ≡ of_list table n
unfolding of_list
of_other n table d = rw (ne_eqb table nrt_it d)

pub of-list : {m : ℕ} (n table : ℕ) → table ≡ nrt_it → m ≡ n → m ≡ of_list table n
unfolding of_list
of-list n table t e = rw (eq-eqb table nrt_it t) e

module _ (s : List ℕ) where
  pub key-built :
      {x y z : ℕ}
      → x ≡ word s 3
      → y ≡ of_list (table_id s) (service_id s)
      → z ≡ of_list (table_id s) (time_span_start s)
      → record { table = table_id s; extension = x; service = y; start = z } ≡ key_in s
  unfolding of_list key_from
  key-built e f g = by (eqb (table_id s) nrt_it) (λ t. rw (e, f, g, t)) (λ t. rw (e, f, g, t))

  pub key-id : (key_in s).table ≡ table_id s
  key-id = (begins_with (table_id s) (table_id_extension s) (service_id s) (time_span_start s)).id

  pub key-further : (key_in s).extension ≡ table_id_extension s
  key-further = (begins_with (table_id s) (table_id_extension s) (service_id s) (time_span_start s)).further

  pub key_fits : Octets s → FitsKey (key_in s)
  key_fits b =
      let extension : table_id_extension s < 65536 = word_fits s b 3 in
      let service : service_id s < 65536 = word_fits s b 8 in
      let high : word s 10 < 65536 = word_fits s b 10 in
      let low : word s 12 < 65536 = word_fits s b 12 in
      let id : table_id s < 256 = b 0 in
      by (eqb (table_id s) nrt_it)
      (λ t.
      rw (key-list (table_id s) (table_id_extension s) (service_id s) (time_span_start s) (eqb-true _ _ t))
      (record { table = omega arith; extension = omega arith; service = omega arith; start = omega arith }))
      (λ f.
      rw (key-other (table_id s) (table_id_extension s) (service_id s) (time_span_start s) (eqb-false _ _ f))
      (record { table = omega arith; extension = omega arith; service = omega arith; start = omega arith }))

pub lists_told_apart : (s t : List ℕ) → ListsToldApart s t
lists_told_apart s t i j =
    rw (i, j) (lists_by_all (table_id_extension s) (service_id s) (time_span_start s) (table_id_extension t) (service_id t) (time_span_start t))

pub others_told_apart : (s t : List ℕ) → OthersToldApart s t
others_told_apart s t d = (
  λ e. (sym (key-id s) ∙ ap (λ k. k.table) e ∙ key-id t, sym (key-further s) ∙ ap (λ k. k.extension) e ∙ key-further t),
  λ w.
      ap (λ n. key_from n (table_id_extension s) (service_id s) (time_span_start s)) w.0
      ∙ (ap (λ n. key_from (table_id t) n (service_id s) (time_span_start s)) w.1
      ∙ others_by_extension (table_id t) (table_id_extension t) (service_id s) (time_span_start s) (service_id t) (time_span_start t) (λ e. d (w.0 ∙ e))),
)

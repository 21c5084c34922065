-- Which tables are held, proved of the functions that a host calls: the layer's laws, told of lent numbers.
--   held-told, told-held, told-once, load_told, load-untold
use mathlib.Core.Path.{◌≡◌, refl, sym, ap, subst, ◌∙◌}
use mathlib.Core.Bool.{true}
use mathlib.Core.List.{List, [], ◌++◌}
use mathlib.Core.Logic.{◌⊎◌, ⊎_elim, inl, inr}
use Prim.Native.Nat.{ℕ, ◌≤◌}
use native.Mathlib.Omega.{arith}
use lib.ListN.{length, drop}
use Rattle.std.specs.Prelude.{Result, Ok, Err}
use Rattle.refusal.specs.declared.Refusal.{Refusal}
use Rattle.base.specs.Octets.{Octets}
use Rattle.answers.specs.Answers.{told, out, puts}
use Rattle.answers.proofs.Puts.{puts-refused, puts-values, puts-accepted}
use Rattle.key.specs.declared.Key.{Key}
use Rattle.shelf.specs.Record.{free_of}
use Rattle.shelf.specs.Layout.{shelf_at}
use Rattle.shelf.proofs.Lists.{length-listed}
use Rattle.shelf_ask.specs.Answer.{table_lent}
use Rattle.shelf_ask.proofs.Tables.{whole-told}
use Rattle.shelf_load.specs.Answer.{loaded_in, loaded_code}
use Rattle.file.specs.Scan.{scan_of}
use Rattle.file.specs.declared.Table.{Table}
use Rattle.file_table.specs.Answer.{file_told, file_table_lent, told_by}
use Rattle.shelf_laws.specs.State.{State, load_on}
use Rattle.shelf_laws.specs.History.{step, after_all, log_of, load}
use Rattle.shelf_laws.specs.Log.{held_by}
use Rattle.shelf_laws.specs.Loads.{FileSays}
use Rattle.shelf_laws.specs.Tables.{length_since, numbers_by, tells_of}
use Rattle.shelf_laws.proofs.Tables as tables
use Rattle.shelf_histories.specs.History.{History, state_of, left_after, left_by, log_after, load_after}
use Rattle.shelf_histories.proofs.OneHistory.{one-history}
use Rattle.shelf_histories.proofs.Ties.{left-state}
use Rattle.demands.specs.Tables.{HeldTold, ToldHeld, ToldOnce, LoadTold, LoadUntold}
use Rattle.demands.proofs.Shelf.{same_log}
use Rattle.demands.proofs.Files.{load_code, load_told as answered-load, loaded-exactly}

same-state : (h : History) → state_of (left_after h) ≡ after_all h.calls
same-state h = (one-history.1 h).state

-- a table's numbers, put into a buffer
module _ (h : History) (p : ℕ) where
  put-told : (key : Key) → tells_of (after_all h.calls) p ≡ told 0 (numbers_by key (log_of h.calls)) → (fields : List ℕ) → 23 ≤ length fields
      → table_lent (left_after h).words (left_after h).store p fields ≡ out 0 (numbers_by key (log_after h) ++ drop 23 fields)
  unfolding table_lent
  put-told key e fields room =
      let values : List ℕ = numbers_by key (log_after h) in
      let sixteen = length-listed 16 (length_since key (log_after h)) in
      let long : length values ≡ 23 = rw sixteen in
      let fits : length values ≤ length fields = omega arith in
      ap (λ s. puts (tells_of s p) fields) (same-state h)
      ∙ ap (λ t. puts t fields) e
      ∙ ap (λ log. puts (told 0 (numbers_by key log)) fields) (sym (same_log h))
      ∙ sym (puts-values values fields fits)
      ∙ ap (λ n. out 0 (values ++ drop n fields)) long

  put-free : tells_of (after_all h.calls) p ≡ told 14 [] → (fields : List ℕ)
      → table_lent (left_after h).words (left_after h).store p fields ≡ out 14 fields
  unfolding table_lent
  put-free e fields =
      ap (λ s. puts (tells_of s p) fields) (same-state h) ∙ ap (λ t. puts t fields) e ∙ sym (puts-refused 14 fields)

pub held-told : HeldTold
held-told h key t =
    let k = tables.held-told h.calls key (subst (λ log. held_by key log ≡ true) (same_log h) t) in
    (k.0, k.1, put-told h k.0 key k.2)

pub told-held : ToldHeld
told-held h p fields room =
    ⊎_elim
    (λ f. inl (put-free h p f fields))
    (λ k.
    let t = k.1 in
    inr (k.0, (t.0, subst (λ log. held_by t.0 log ≡ true) (sym (same_log h)) t.1, put-told h p t.0 t.2 fields room)))
    (tables.told-held h.calls p)

pub told-once : ToldOnce
told-once h p q =
    subst (λ s. tells_of s p ≡ tells_of s q → (tells_of s p ≡ told 14 []) ⊎ (p ≡ q)) (sym (same-state h)) (tables.told-once h.calls p q)

module _ (h : History) (file : List ℕ) (octets : Octets file) (e : (load_after h file).code ≡ 0) where
  abbrev s : State
  s = after_all h.calls

  done : (load_on s file).said ≡ Ok tt
  done = sym (answered-load h file) ∙ ap loaded_in e

  same-free : free_of (shelf_at (left_after h).words) ≡ free_of s.shelf
  same-free = ap (λ (x : State). free_of x.shelf) (same-state h)

  next : state_of (left_by (left_after h) (load file)) ≡ step s (load file)
  next = left-state (left_after h) (load file) [] (octets, tt) ∙ ap (λ x. step x (load file)) (same-state h)

  same-tells : tells_of (state_of (left_by (left_after h) (load file))) (free_of (shelf_at (left_after h).words)) ≡ file_told file
  same-tells =
      ap (tells_of (state_of (left_by (left_after h) (load file)))) same-free
      ∙ ap (λ x. tells_of x (free_of s.shelf)) next
      ∙ (tables.load_told h.calls file done).2

  told-file : (file_told file).number ≡ 0
  told-file = (tables.load_told h.calls file done).0

  long-file : length (file_told file).values ≡ 23
  long-file =
      sym (ap (λ t. length t.values) same-tells)
      ∙ whole-told (load_after h file).words (length (load_after h file).store) (free_of (shelf_at (left_after h).words))
      (ap (λ t. t.number) same-tells ∙ told-file)

pub load_told : LoadTold
unfolding table_lent file_table_lent
load_told h file octets e = (
  rw (same-free h file octets e) (tables.load_told h.calls file (done h file octets e)).1,
  λ fields room. (
    (puts-accepted (file_told file) fields).1 (told-file h file octets e, rw (long-file h file octets e) room),
    ap (λ t. puts t fields) (same-tells h file octets e),
  ),
)

pub load-untold : LoadUntold
unfolding file_told
load-untold h file d = go (scan_of file) refl
  where
    go : (scan : Result Table Refusal) → scan_of file ≡ scan → (load_after h file).code ≡ (file_told file).number
    go (Ok table) q = absurd (d (ap (λ x. (told_by x).number) q))
    go (Err r) q =
        let says = subst (λ scan. FileSays scan (log_after h) (Err r)) (sym q) refl in
        let said : (load_on (after_all h.calls) file).said ≡ Err r = sym (answered-load h file) ∙ (loaded-exactly h file (Err r)).1 says in
        load_code h file ∙ ap loaded_code said ∙ sym (ap (λ x. (told_by x).number) q)

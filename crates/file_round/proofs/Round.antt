-- Document 01, "The shelf file": the round trips.
--   saved-again        saving what was loaded gives the same bytes
--   restores           what was saved from a store as it was left, loaded on a shelf with room and without that key, restores the table
--   restores-always    .. so it is after any two histories, of a table that the one holds and the other does not, unless it is full
--   answers-alike      a restored table answers every question as the one that was saved
use Rattle.std.specs.Prelude.{if◌then◌else◌, Ok, Err, Some, None}
use mathlib.Core.Path.{◌≡◌, refl, sym, ap, subst, fun_ext, ◌∙◌}
use mathlib.Core.List.{List, ◌++◌}
use Prim.Native.Nat.{ℕ, ◌<◌, ◌≤◌}
use native.Mathlib.Omega.{arith}
use lib.ListN.{length, take, drop}
use borrow.Author.Tests.{eq-eqb, ne_eqb}
use Rattle.base.specs.Choice.{first}
use Rattle.berth.specs.Berth.{sections, places, store_size}
use Rattle.shelf.specs.Record.{place_at, length_at, holds, place_of, free_of}
use Rattle.key.specs.declared.Key.{Key}
use Rattle.shelf.specs.Record.{Place}
use Rattle.shelf_ask.specs.Ask.{holding_of, uncopied, copy, Copy, complete, lowest_missing}
use Rattle.shelf_ask.proofs.Held.{in_place_lem, copy-held, whole-held, missing-held}
use Rattle.file.specs.Layout.{file_of, chosen}
use Rattle.shelf_save.specs.Save.{Save, refuse, unsaved, written, saved_file, save_of}
use Rattle.shelf_laws.specs.State.{State, save_out, copy_out, whole_in, missing_in}
use Rattle.shelf_laws.specs.History.{Question, copied, wholly, lacking, saved, about, reply, after_all}
use Rattle.shelf_laws.proofs.Places.{free-le}
use Rattle.shelf_laws.proofs.Kept.{Good}
use Rattle.shelf_laws.proofs.Asked.{file-held}
use Rattle.shelf_laws.proofs.Full.{none-full}
use Rattle.shelf_laws.proofs.Histories.{holds-all}
use Rattle.shelf_laws.proofs.Held.{unheld-place}
use Rattle.file_round.specs.Round.{bytes_at, AsLeft, Restored, Restores, RestoresAlways, AnswersAlike, SavedAgain}
use Rattle.file_round.proofs.Saved.{saved-bytes}
use Rattle.file_round.proofs.Left.{left-all}
use Rattle.file_round.proofs.Again as Again
use Rattle.file_round.proofs.Restored.{loaded, restored}

pub saved-again : SavedAgain
saved-again h = Again.saved-again (after_all h) (holds-all h).good

pub restores : (s : State) → Good s → (key : Key) → AsLeft s key → (out : List ℕ) (n : ℕ) → (save_out s key out).said ≡ Ok n
    → (t : State) → Good t → place_of t.shelf key ≡ places → free_of t.shelf < places
    → Restores s key t (take n (save_out s key out).out)
restores s g key left out n e t good without room =
    let w = saved-bytes s key g out n e in
    subst (Restores s key t) (sym w.file) (loaded s g key left w.held t good without room, restored s g key left w.held t good without room)

pub restores-always : RestoresAlways
restores-always h i key out n e unheld not_full =
    let without : place_of (after_all i).shelf key ≡ places = unheld-place i key unheld in
    let some : free_of (after_all i).shelf ≡ places → ⊥ = λ none. not_full (none-full i none) in
    let most : free_of (after_all i).shelf ≤ places = free-le (after_all i).shelf in
    restores (after_all h) (holds-all h).good key (left-all h key) out n e (after_all i) (holds-all i).good without (omega arith)

-- a question about another table
abbrev asking : Question → Key → Question
asking (Question.copy k n out) key = Question.copy key n out
asking (Question.whole k) key = Question.whole key
asking (Question.missing k) key = Question.missing key
asking (Question.save k out) key = Question.save key out

asking-itself : (q : Question) (key : Key) → about q ≡ key → asking q key ≡ q
asking-itself (Question.copy k n out) key e = ap (λ x. Question.copy x n out) (sym e)
asking-itself (Question.whole k) key e = ap Question.whole (sym e)
asking-itself (Question.missing k) key e = ap Question.missing (sym e)
asking-itself (Question.save k out) key e = ap (λ x. Question.save x out) (sym e)

-- what one may ask of it
module _ (s t : State) (key : Key) (gs : Good s) (gt : Good t) (held : place_of s.shelf key < places) (r : Restored s t key) where
  in-s : holding_of s.shelf (length s.store) key ≡ Ok (place_of s.shelf key)
  in-s = in_place_lem s.shelf (length s.store) key gs.lent gs.unspoiled (place_of s.shelf key) refl (λ e. omega arith)

  in-t : holding_of t.shelf (length t.store) key ≡ Ok (place_of t.shelf key)
  in-t = in_place_lem t.shelf (length t.store) key gt.lent gt.unspoiled (place_of t.shelf key) refl (λ e. let i = r.held in omega arith)

  -- by the place and the bytes alone
  abbrev copied_by : Place → List ℕ → ℕ → List ℕ → Copy
  copied_by place bytes n out =
      first (λ e. copy (Err e) out) (uncopied place n out) (copy (Ok (length_at place n)) (bytes ++ drop (length_at place n) out))

  restored-copies : (n : ℕ) (out : List ℕ) → copy_out t key n out ≡ copy_out s key n out
  restored-copies n out =
      copy-held t.shelf t.store key (place_of t.shelf key) in-t n out
      ∙ ap (λ b. copied_by (place_at t.shelf (place_of t.shelf key)) b n out) (r.bytes n)
      ∙ ap (λ p. copied_by p (bytes_at s (place_of s.shelf key) n) n out) r.table
      ∙ sym (copy-held s.shelf s.store key (place_of s.shelf key) in-s n out)

  restored-whole : whole_in t key ≡ whole_in s key
  restored-whole =
      whole-held t.shelf t.store key (place_of t.shelf key) in-t
      ∙ ap (λ p. Ok (complete p)) r.table
      ∙ sym (whole-held s.shelf s.store key (place_of s.shelf key) in-s)

  restored-missing : missing_in t key ≡ missing_in s key
  restored-missing =
      missing-held t.shelf t.store key (place_of t.shelf key) in-t
      ∙ ap (λ p. Ok (if complete p then None else Some (lowest_missing p))) r.table
      ∙ sym (missing-held s.shelf s.store key (place_of s.shelf key) in-s)

  restored-file : saved_file t.shelf t.store key ≡ saved_file s.shelf s.store key
  restored-file =
      file-held t key
      ∙ ap (λ b. file_of (chosen sections (holds (place_at t.shelf (place_of t.shelf key))) b)) (fun_ext r.bytes)
      ∙ ap (λ p. file_of (chosen sections (holds p) (bytes_at s (place_of s.shelf key)))) r.table
      ∙ sym (file-held s key)

  -- by the file alone
  abbrev saved_by : List ℕ → List ℕ → Save
  saved_by file out = first (refuse out) (unsaved file out) (written file out)

  save-held : (x : State) → Good x → place_of x.shelf key < places → (out : List ℕ) → save_out x key out ≡ saved_by (saved_file x.shelf x.store key) out
  unfolding save_of
  save-held x g h out =
      rw (eq-eqb (length x.store) store_size g.lent, g.unspoiled, ne_eqb (place_of x.shelf key) places (λ e. omega arith))

  restored-saves : (out : List ℕ) → save_out t key out ≡ save_out s key out
  restored-saves out =
      save-held t gt r.held out ∙ ap (λ f. saved_by f out) restored-file ∙ sym (save-held s gs held out)

  alike : (q : Question) → about q ≡ key → reply t (asking q key) ≡ reply s (asking q key)
  alike (Question.copy k n out) e = ap copied (restored-copies n out)
  alike (Question.whole k) e = ap wholly restored-whole
  alike (Question.missing k) e = ap lacking restored-missing
  alike (Question.save k out) e = ap saved (restored-saves out)

  pub answers-alike : AnswersAlike s t key
  answers-alike q e = subst (λ x. reply t x ≡ reply s x) (asking-itself q key e) (alike q e)

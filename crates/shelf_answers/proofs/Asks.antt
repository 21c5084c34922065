-- The questions to a lent shelf, and the calls that fill an output from it, keep their laws.
--   whole_tells, missing_tells, copy_tells, save_tells     the numbers of their answers
--   copy_fills, save_fills                                 the outputs
use mathlib.Core.Path.{◌≡◌, refl, sym, ap, ◌∙◌}
use mathlib.Core.Bool.{Bool, true, false}
use mathlib.Core.List.{List}
use Rattle.refusal.specs.declared.Refusal.TheVariants.{TableNotHeld, OutputTooSmall, SectionNotHeld, StoreSize, ShelfSpoiled}
use Prim.Native.Nat.{ℕ, ◌<◌, ◌≤◌, ◌+◌, ◌*◌, ◌^◌}
use native.Mathlib.Omega.{arith}
use lib.Dec.{ltb}
use lib.ListN.{length}
use borrow.Author.Tests.{ltb-true, ltb-false}
use Rattle.base.specs.Choice.{first}
use Rattle.base.proofs.Cases.{by}
use Rattle.base.proofs.Tables.{among}
use Rattle.answers.specs.Answers.{size_code, filled}
use Rattle.answers.proofs.Fills.{size_back, refusal-back, through, refused-fills, fills}
use Rattle.std.specs.Prelude.{Option, Some, None, Result, Ok, Err}
use Rattle.refusal.specs.Refusal.{number, refusal_of}
use Rattle.refusal.specs.declared.Refusal.{Refusal}
use Rattle.refusal.proofs.Numbers.{in_byte, back}
use Rattle.berth.specs.Berth.{sections, berth_size, standing}
use Rattle.berth.proofs.Berths.{standing-length}
use Rattle.shelf.specs.Record.{Shelf, place_at, length_at, place_of}
use Rattle.key.specs.declared.Key.{Key}
use Rattle.shelf.specs.Layout.{shelf_at}
use Rattle.shelf_ask.specs.Ask.{Copy, copy, copy_from, uncopied, unasked, asked, holding_of, whole_of, missing_of, complete}
use Rattle.shelf_ask.specs.Answer.{whole_back, missing_back, copied_in, whole_code, missing_code, copy_out, whole_lent, missing_lent, copy_lent}
use Rattle.shelf_ask.proofs.Told.{whole_back_lem, missing-back}
use Rattle.shelf_ask.proofs.Held.{held, asked-held, copy-refused, copy-held}
use Rattle.shelf_ask.proofs.Alike.{by-holding}
use Rattle.shelf_ask.proofs.Numbers.{length-read, length-past}
use Rattle.shelf_save.specs.Save as Save
use Rattle.shelf_save.specs.Save.{refuse, unsaved, written, saved_file, save_of}
use Rattle.shelf_save.specs.Answer.{saved_in, save_out, save_lent}
use Rattle.shelf_save.proofs.Saving.{file-in, file-most, held-stands, save-refused}
use Rattle.shelf_answers.specs.Laws.{Tells, WholeTells, MissingTells, CopyTells, CopyFills, SaveTells, SaveFills}
use Rattle.shelf_answers.proofs.Tells.{tells-no, tells-yes}

-- an answer that is a size of fewer than 65,536 bytes, or a refusal
abbrev refused : ℕ → Result ℕ Refusal
refused n = Err (refusal_of n)

sized-no : (r : Refusal) → Tells copied_in (Err r) (number r)
sized-no r = tells-no copied_in r (refusal-back Ok refused (number r) (in_byte r).0 (in_byte r).1 ∙ ap Err (back r))

sized-yes : (n : ℕ) → n < 2 ^ 16 → Tells copied_in (Ok n) (size_code n)
sized-yes n h = tells-yes copied_in n (size_code n) (omega arith) (size_back Ok refused n h)

module _ (words store : List ℕ) (key : Key) where
  abbrev shelf : Shelf
  shelf = shelf_at words

  abbrev WholesSo : Result Bool Refusal → Type 0
  WholesSo a = Tells whole_back a (whole_code a)

  unwhole-so : (r : Refusal) → WholesSo (Err r)
  unwhole-so r = tells-no whole_back r (whole_back_lem (Err r))

  whole-so : (b : Bool) → WholesSo (Ok b)
  whole-so true = tells-yes whole_back true 256 refl refl
  whole-so false = tells-yes whole_back false 512 refl refl

  pub whole_tells : WholeTells words store key
  unfolding whole_lent whole_of
  whole_tells =
      among Err WholesSo (unasked shelf store key) _
      (unwhole-so StoreSize, (unwhole-so ShelfSpoiled, (unwhole-so TableNotHeld, tt)))
      (whole-so (complete (asked shelf store key)))

  abbrev MissingsSo : Result (Option ℕ) Refusal → Type 0
  MissingsSo a = Tells missing_back a (missing_code a)

  unmissing-so : (r : Refusal) → MissingsSo (Err r)
  unmissing-so r = tells-no missing_back r (missing-back (Err r))

  missing-so : (o : Option ℕ) → MissingsSo (Ok o)
  missing-so None = tells-yes missing_back None 256 refl refl
  missing-so (Some n) = tells-yes missing_back (Some n) (512 + 65536 * n) (omega arith) (missing-back (Ok (Some n)))

  pub missing_tells : MissingTells words store key
  unfolding missing_lent missing_of
  missing_tells =
      among Err MissingsSo (unasked shelf store key) _
      (unmissing-so StoreSize, (unmissing-so ShelfSpoiled, (unmissing-so TableNotHeld, tt)))
      (missing-so _)

  -- copying section n
  module _ (n : ℕ) (old : List ℕ) where
    abbrev CopiesSo : Copy → Type 0
    CopiesSo c = Tells copied_in c.said (copy_out c).code

    module _ (p : ℕ) (e : holding_of shelf (length store) key ≡ Ok p) where
      abbrev size : ℕ
      size = length_at (place_at shelf p) n

      -- there are sixteen numbers
      past : sections ≤ n → size ≡ 0
      past h = sym (length-read words (length store) key p e n refl) ∙ length-past words (length store) key p e n refl h

      small : size ≤ berth_size
      small =
          by (ltb n sections)
          (λ t. (held shelf (length store) key p e).most n (ltb-true _ _ t))
          (λ f. let z : size ≡ 0 = past (ltb-false _ _ f) in omega arith)

      stands : length (standing store p n size) ≡ size
      unfolding standing
      stands =
          by (ltb n sections)
          (λ t. let w = held shelf (length store) key p e in standing-length store w.whole p n w.place (ltb-true _ _ t) size small)
          (λ f. rw (past (ltb-false _ _ f)))

    pub copy_tells : CopyTells words store key n old
    unfolding copy_lent
    copy_tells =
        by-holding (holding_of shelf (length store) key)
        (λ p e.
        rw (copy-held shelf store key p e n old)
        (among (λ k. copy (Err k) old) CopiesSo (uncopied (place_at shelf p) n old) (copy_from (place_at shelf p) store p n old)
        (sized-no SectionNotHeld, (sized-no OutputTooSmall, tt))
        (sized-yes (size p e) (omega (arith, small p e)))))
        (λ k e. rw (copy-refused shelf store key k e n old) (sized-no k))

    pub copy_fills : CopyFills words store key n old
    unfolding copy_lent
    copy_fills =
        by-holding (holding_of shelf (length store) key)
        (λ p e.
        let at : place_of shelf key ≡ p = (held shelf (length store) key p e).at in
        let bytes = standing store p n (size p e) in
        let whole : filled bytes old ≡ copy_out (copy_from (place_at shelf p) store p n old) = rw (stands p e) in
        rw (at, copy-held shelf store key p e n old)
        (rw (through copy_out (λ k. copy (Err k) old) (uncopied (place_at shelf p) n old) (copy_from (place_at shelf p) store p n old), ← whole)
        (fills bytes old (uncopied (place_at shelf p) n old) (omega (arith, small p e, stands p e)))))
        (λ k e. rw (copy-refused shelf store key k e n old) (refused-fills _ old (number k) (in_byte k).0 (in_byte k).1))

  -- saving the table
  module _ (old : List ℕ) where
    abbrev file : List ℕ
    file = saved_file shelf store key

    abbrev SavesSo : Save.Save → Type 0
    SavesSo c = Tells saved_in c.said (save_out c).code

    module _ (p : ℕ) (e : holding_of shelf (length store) key ≡ Ok p) where
      short : length file < 2 ^ 16
      short = rw (file-in shelf store key p e) (omega (arith, file-most (held-stands shelf store key p e)))

      saves : save_of shelf store key old ≡ first (refuse old) (unsaved file old) (written file old)
      unfolding save_of
      saves = asked-held (refuse old) (unsaved file old) (written file old) shelf (length store) key p e

    pub save_tells : SaveTells words store key old
    unfolding save_lent
    save_tells =
        by-holding (holding_of shelf (length store) key)
        (λ p e.
        rw (saves p e)
        (among (refuse old) SavesSo (unsaved file old) (written file old) (sized-no OutputTooSmall, tt) (sized-yes (length file) (short p e))))
        (λ k e. rw (← save-refused shelf store key old k e) (sized-no k))

    pub save_fills : SaveFills words store key old
    unfolding save_lent
    save_fills =
        by-holding (holding_of shelf (length store) key)
        (λ p e.
        rw (saves p e)
        (rw (through save_out (refuse old) (unsaved file old) (written file old)) (fills file old (unsaved file old) (short p e))))
        (λ k e. rw (← save-refused shelf store key old k e) (refused-fills file old (number k) (in_byte k).0 (in_byte k).1))

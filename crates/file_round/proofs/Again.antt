-- Saving what was loaded.
--   saved-again      it gives the same bytes
use mathlib.Core.Path.{◌≡◌, sym, ap, ◌∙◌}
use mathlib.Core.Bool.{true, ◌&&◌}
use mathlib.Core.List.{List}
use Prim.Native.Nat.{ℕ, ◌≤◌}
use lib.ListN.{length}
use Rattle.std.specs.Prelude.{Ok}
use Rattle.section.specs.declared.Header.{Header}
use Rattle.shelf.specs.Record.{key_of}
use Rattle.file_number.specs.Number.{Bytes}
use Rattle.file.specs.Layout.{file_of}
use Rattle.file.specs.Scan.{scan_of, heading}
use Rattle.file.proofs.Heading.{Headed, headed}
use Rattle.file_laws.proofs.Files.{file-of-the-table}
use Rattle.shelf_save.specs.Save.{written}
use Rattle.shelf_laws.specs.State.{State, load_on, save_out, after_load}
use Rattle.shelf_laws.specs.Answers.{is_done}
use Rattle.shelf_laws.specs.Log.{loads}
use Rattle.key.proofs.Keys.{key-itself}
use Rattle.shelf_laws.proofs.Kept.{Good}
use Rattle.shelf_laws.proofs.Loaded.{load-good, load-begins}
use Rattle.file_round.proofs.Left.{file-sections}
use Rattle.file_round.proofs.Saved.{file_from, saved-answer}
use Rattle.shelf_laws.proofs.Asked.{kept-file}

-- a file of bytes that was loaded
module _ (s : State) (g : Good s) (file : List ℕ) (b : Bytes file) (h : Header) (e : heading (scan_of file) ≡ Ok h)
    (done : (load_on s file).said ≡ Ok tt) where
  found : Headed (scan_of file) h
  found = headed (scan_of file) h e

  begins : (loads (key_of h) file && is_done (load_on s file).said) ≡ true
  begins = rw (found.is, done, found.header, key-itself (key_of h))

  same-file : file_from (after_load (load_on s file)) (key_of h) ≡ file
  same-file =
      kept-file (after_load (load_on s file)) (key_of h) (load-begins s file g (key_of h) begins)
      ∙ ap file_of (file-sections file found.table found.is)
      ∙ sym (file-of-the-table file b (h, e)).1

  pub saved-again : (out : List ℕ) → length file ≤ length out → save_out (after_load (load_on s file)) (key_of h) out ≡ written file out
  saved-again out room =
      let k = load-begins s file g (key_of h) begins in
      saved-answer (after_load (load_on s file)) (key_of h) (load-good s file g) out (rw k.place k.taken) (rw same-file room)
      ∙ ap (λ f. written f out) same-file

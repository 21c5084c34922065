-- What a load is answered, and the round trips of a file, proved of the functions that a host calls.
--   loaded-exactly, restores-always, saved-again
use mathlib.Core.Path.{◌≡◌, refl, sym, ap, subst, ◌∙◌}
use mathlib.Core.Bool.{false}
use mathlib.Core.List.{List}
use mathlib.Core.Logic.{◌↔◌}
use Prim.Native.Nat.{ℕ, ◌<◌}
use native.Mathlib.Omega.{arith}
use lib.ListN.{take}
use Rattle.std.specs.Prelude.{Result, Ok, Err}
use Rattle.refusal.specs.Refusal.{number}
use Rattle.refusal.specs.declared.Refusal.{Refusal}
use Rattle.refusal.proofs.Numbers.{in_byte}
use Rattle.key.specs.declared.Key.{Key}
use Rattle.shelf.specs.Record.{key_of}
use Rattle.shelf_save.specs.Save.{Save}
use Rattle.base.specs.Octets.{Octets}
use Rattle.file.specs.Scan.{scan_of}
use Rattle.answers.specs.Answers.{refusal_in, size_in}
use Rattle.shelf_laws.specs.State.{load_on, save_out, after_load}
use Rattle.shelf_laws.specs.History.{after_all, log_of, save, load}
use Rattle.shelf_laws.specs.Log.{held_by, Full}
use Rattle.shelf_laws.specs.Loads.{FileSays}
use Rattle.shelf_laws.proofs.Loads as loads
use Rattle.shelf_laws.proofs.Ranges.{SizeRange}
use Rattle.shelf_laws.proofs.Histories.{holds-all}
use Rattle.shelf_laws.proofs.Loaded.{load-good}
use Rattle.file_round.specs.Round.{Restores}
use Rattle.file_round.proofs.Saved.{saved-bytes}
use Rattle.shelf_laws.proofs.Octets.{octets-after}
use Rattle.file_round.proofs.Octets.{octets-saved}
use Rattle.file_round.proofs.Round as round
use Rattle.shelf_save.specs.Answer as save-answer
use Rattle.shelf_save.specs.Answer.{saved_code}
use Rattle.shelf_load.specs.Answer.{loaded_code, loaded_in}
use Rattle.shelf_load.proofs.Told.{loaded-back}
use Rattle.shelf_histories.specs.Numbers.{replied}
use Rattle.shelf_histories.specs.History.{History, log_after, save_after, load_after}
use Rattle.shelf_histories.proofs.Back.{size_in_lem}
use Rattle.shelf_histories.proofs.After.{reply-range, reply-after, next-answer, next-reply}
use Rattle.demands.specs.Files.{file_in, LoadedExactly, RestoresAlways, SavedAgain}
use Rattle.demands.proofs.Shelf.{same_log}

-- what a save that was not refused wrote, in numbers
pub record Written (c : Save) : Type 0 where
  pub size : ℕ
  pub said : c.said ≡ Ok size
  pub file : file_in (save-answer.save_out c) ≡ take size c.out

written : (c : Save) → SizeRange c.said → refusal_in (saved_code c.said) ≡ 0 → Written c
written c r e = go c.said refl r e
  where
    go : (a : Result ℕ Refusal) → c.said ≡ a → SizeRange a → refusal_in (saved_code a) ≡ 0 → Written c
    go (Ok n) q r e =
        record {
          size = n;
          said = q;
          file = ap (λ a. take (size_in (saved_code a)) c.out) q ∙ ap (λ m. take m c.out) (size_in_lem n r);
        }
    go (Err x) q r e = let a : 0 < number x = (in_byte x).0 in let b : number x < 256 = (in_byte x).1 in absurd (omega arith)

-- the number of a load, by the layer's answer
pub load_code : (h : History) (file : List ℕ) → (load_after h file).code ≡ loaded_code (load_on (after_all h.calls) file).said
load_code h file = ap (λ a. a.code) (next-answer h (load file))

-- .. from which it comes back
pub load_told : (h : History) (file : List ℕ) → loaded_in (load_after h file).code ≡ (load_on (after_all h.calls) file).said
load_told h file =
    let t = after_all h.calls in
    ap loaded_in (load_code h file) ∙ loaded-back (load_on t file).said

pub loaded-exactly : LoadedExactly
loaded-exactly h file a =
    subst (λ log. (loaded_in (load_after h file).code ≡ a) ↔ FileSays (scan_of file) log a) (sym (same_log h))
    (subst (λ said. (said ≡ a) ↔ FileSays (scan_of file) (log_of h.calls) a) (sym (load_told h file)) (loads.loaded-exactly h.calls file a))

module _ (first second : History) (key : Key) (output : List ℕ) (e : refusal_in (save_after first key output).code ≡ 0) where
  abbrev file : List ℕ
  file = file_in (save_after first key output)

  same-save : save_after first key output ≡ save-answer.save_out (save_out (after_all first.calls) key output)
  same-save = reply-after first (save key output)

  wrote : Written (save_out (after_all first.calls) key output)
  wrote =
      written (save_out (after_all first.calls) key output) (reply-range first (save key output))
      (sym (ap (λ a. refusal_in a.code) same-save) ∙ e)

  same-file : take wrote.size (save_out (after_all first.calls) key output).out ≡ file
  same-file = sym (ap file_in same-save ∙ wrote.file)

  restored : held_by key (log_after second) ≡ false → ¬ (Full (log_after second))
      → Restores (after_all first.calls) key (after_all second.calls) file
  restored unheld not_full =
      subst (Restores (after_all first.calls) key (after_all second.calls)) same-file
      (round.restores-always first.calls second.calls key output wrote.size wrote.said
      (sym (ap (held_by key) (same_log second)) ∙ unheld)
      (λ full. not_full (subst Full (sym (same_log second)) full)))

pub restores-always : RestoresAlways
restores-always first second key output e unheld not_full =
    let file = file_in (save_after first key output) in
    let s = after_all first.calls in
    let t = after_all second.calls in
    let back = restored first second key output e unheld not_full in
    let was = saved-bytes s key (holds-all first.calls).good output (wrote first second key output e).size (wrote first second key output e).said in
    let octets =
    subst Octets (sym was.file ∙ same-file first second key output e)
    (octets-saved s (holds-all first.calls).good (octets-after first.calls first.bytes) key was.held) in (
      load_code second file ∙ ap loaded_code back.0,
      λ q mine.
          next-reply second (load file) (octets, tt) q
          ∙ ap replied
          (round.answers-alike s (after_load (load_on t file)) key (holds-all first.calls).good
          (load-good t file (holds-all second.calls).good) was.held back.1 q mine)
          ∙ sym (reply-after first q),
    )

pub saved-again : SavedAgain
saved-again h file octets header found e output room =
    let t = after_all h.calls in
    let said : (load_on (after_all h.calls) file).said ≡ Ok tt =
    sym (load_told h file) ∙ ap loaded_in e in
    next-reply h (load file) (octets, tt) (save (key_of header) output)
    ∙ ap save-answer.save_out (round.saved-again h.calls file octets header found said output room)

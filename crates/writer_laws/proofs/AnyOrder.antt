-- The sections of a body that are all offered make a complete table, and the shelf hands the body out.
--
-- In any history that leaves the table undisturbed, whatever else the shelf is asked and offered:
--   complete-among, handed-among, joined-among
-- "Offered to a fresh shelf in any order, the sections make a complete table whose joined bodies are the given body."
--   complete-table   the table is called complete
--   hands_out        each section is handed out as it was written
--   bodies-back      the joined bodies of the sections that are handed out are the given body
use mathlib.Core.Path.{◌≡◌, refl, sym, ap, subst, ◌∙◌}
use mathlib.Core.Bool.{true}
use mathlib.Core.List.Memᴰ
use mathlib.Core.List.{List, [], ◌∷◌, ◌++◌, Memᴰ}
use mathlib.Core.Logic.{⊎_elim}
use Prim.Native.Nat.{ℕ, zero, suc, ◌+◌, ◌≤◌}
use native.Mathlib.Omega.{arith}
use lib.ListN.{length, drop}
use lib.Seq.{take-append_seam}
use Rattle.base.proofs.Below.{every-all}
use Rattle.base.proofs.Cases.{unlike}
use Rattle.key.specs.declared.Key.{Key}
use Rattle.shelf_laws.specs.History.{Call, start, after_all, log_of, copy_after, Each}
use Rattle.shelf_laws.specs.Reception.{OfferedIn, Undisturbed}
use Rattle.shelf_laws.proofs.Kept.{Kept}
use Rattle.shelf_laws.proofs.Asked.{kept-copied, kept_whole}
use Rattle.shelf_laws.proofs.Histories.{holds-all}
use Rattle.shelf_laws.proofs.Reception.{heard, heard_table, Fed, fed-all, offered-heard}
use Rattle.writer.specs.Writer.{longest_body, last_of, body_at, written}
use Rattle.key.specs.Key.{nrt_it}
use Rattle.writer.specs.declared.Label.{Label}
use Rattle.writer.proofs.Laws.{last-le}
use Rattle.writer.proofs.Fewest.{first_bodies, bodies_join}
use Rattle.writer_laws.specs.Offers.{label_key, offers_of, AnyOrder, body_of, bodies_after}
use Rattle.writer_laws.specs.Laws.{CompleteIn, HandedIn, JoinedIn, CompleteTable, HandsOut, BodiesBack, CompleteAmong, HandedAmong, JoinedAmong}
use Rattle.writer_laws.proofs.Sections.{is-section, its-number, its-size, its-body}
use Rattle.writer_laws.proofs.Undisturbed.{undisturbed}

module _ (label : Label) (body : List ℕ) (other : ¬ (label.table ≡ nrt_it)) (five : label.version ≤ 31) (fits : length body ≤ longest_body) where
  abbrev key : Key
  key = label_key label

  abbrev last : ℕ
  last = last_of (length body)

  module _ (h : List Call) (calm : Each (Undisturbed key label.version last (written label body)) (log_of h))
      (all : (k : ℕ) → k ≤ last → OfferedIn h (written label body k)) where
    heard-each : (k : ℕ) → k ≤ last → heard key (log_of h) k ≡ true
    heard-each k i =
        subst (λ n. heard key (log_of h) n ≡ true) (its-number label body other five fits k i)
        (offered-heard key start [] h (written label body k) (is-section label body other five fits k i) (all k i))

    kept : (p : ℕ) × Kept (after_all h) key p (heard_table key label.version last (written label body) (log_of h))
    kept = go (fed-all key label.version last (written label body) h calm)
      where
        go : Fed key label.version last (written label body) (after_all h) (log_of h)
            → (p : ℕ) × Kept (after_all h) key p (heard_table key label.version last (written label body) (log_of h))
        go (Fed.unheard _ none) = absurd (unlike (sym (heard-each 0 (omega arith)) ∙ none 0))
        go (Fed.held p k) = (p, k)

    completes : CompleteIn label h
    completes =
        kept_whole (after_all h) (holds-all h).good key kept.1
        ∙ rw (every-all (heard key (log_of h)) (last + 1) (λ k i. heard-each k (omega arith)))

    handed : HandedIn label body h
    handed k i out room =
        let l : last ≤ 15 = last-le (length body) fits in
        kept-copied (after_all h) (holds-all h).good key kept.1 k (omega arith) (heard-each k i) out room

    -- the body that is handed out with section k
    handed-body : (k : ℕ) → k ≤ last → (out : List ℕ) → 1024 ≤ length out → body_of (copy_after h key k out) ≡ body_at body k
    handed-body k i out room =
        let s : length (written label body k) ≤ 1024 = its-size label body other five fits k i in
        ap body_of (handed k i out (omega arith))
        ∙ ap (drop 8) (take-append_seam (written label body k) (drop (length (written label body k)) out))
        ∙ its-body label body k

    first-handed : (out : List ℕ) → 1024 ≤ length out → (n : ℕ) → n ≤ last + 1 → bodies_after h key out n ≡ first_bodies body n
    first-handed out room zero i = refl
    first-handed out room (suc n) i =
        ap (λ l. l ++ body_of (copy_after h key n out)) (first-handed out room n (omega arith))
        ∙ ap (λ l. first_bodies body n ++ l) (handed-body n (omega arith) out room)

    joined : JoinedIn label body h
    joined out room = first-handed out room (last + 1) (omega arith) ∙ bodies_join body

  offered-in : (ks : List ℕ) (k : ℕ) → Memᴰ k ks → OfferedIn (offers_of label body ks) (written label body k)
  offered-in [] k m = absurd (Memᴰ.not-nil m)
  offered-in (j ∷ ks) k m =
      ⊎_elim
      (λ e. Memᴰ.head (ap (λ n. Call.offer (written label body n)) e))
      (λ t. Memᴰ.tail (offered-in ks k t))
      (Memᴰ.cases_cons m)

  module _ (ks : List ℕ) (order : AnyOrder last ks) where
    abbrev h : List Call
    h = offers_of label body ks

    calm : Each (Undisturbed key label.version last (written label body)) (log_of h)
    calm = undisturbed label body other five fits ks order.known

    each-offered : (k : ℕ) → k ≤ last → OfferedIn h (written label body k)
    each-offered k i = offered-in ks k (order.each k i)

pub complete-among : CompleteAmong
complete-among = completes

pub handed-among : HandedAmong
handed-among = handed

pub joined-among : JoinedAmong
joined-among = joined

pub complete-table : CompleteTable
complete-table label body other five fits ks order =
    complete-among label body other five fits (offers_of label body ks) (calm label body other five fits ks order) (each-offered label body other five fits ks order)

pub hands_out : HandsOut
hands_out label body other five fits ks order =
    handed-among label body other five fits (offers_of label body ks) (calm label body other five fits ks order) (each-offered label body other five fits ks order)

pub bodies-back : BodiesBack
bodies-back label body other five fits ks order =
    joined-among label body other five fits (offers_of label body ks) (calm label body other five fits ks order) (each-offered label body other five fits ks order)

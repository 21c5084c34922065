-- A clean payload, unrolled from the left, is the layout of its own fields.
--   words         two bytes are the number that they make
--   unrolls       a length, the bytes under it, and the rest
--   clean-laid    the whole payload
use mathlib.Core.Path.{◌≡◌, refl, sym, ap, ◌∙◌}
use mathlib.Core.List.{List, ◌∷◌, ◌++◌, append-nil}
use Prim.Native.Nat.{ℕ, ◌+◌, ◌<◌, ◌≤◌}
use native.Mathlib.Numerals.{add-one}
use native.Mathlib.Omega.{arith}
use lib.ListN.{length, drop, take-append-drop}
use lib.Seq.{drop-cons, drop-drop, drop-length}
use Rattle.base.specs.Bytes.{byte, word, part}
use Rattle.base.specs.Octets.{Octets}
use Rattle.base.proofs.Bytes.{word-high, word_low, length_part}
use Rattle.trigger_faults.specs.Fields.{target_at, user_at}
use Rattle.trigger.specs.Layout.{two_bytes, counted, laid}
use Rattle.trigger.specs.Message.{name_in, target_bytes_in, user_in}
use Rattle.trigger.proofs.Clean.{Clean}

module _ (s : List ℕ) where
  pub next : (at : ℕ) → at < length s → drop at s ≡ byte s at ∷ drop (at + 1) s
  next at h = rw (add-one, drop-cons s at 0)

  module _ (b : Octets s) where
    pub words : (at : ℕ) → at + 2 ≤ length s → drop at s ≡ two_bytes (word s at) ++ drop (at + 2) s
    words at h =
        let e : at + 1 + 1 ≡ at + 2 = omega arith in
        next at (omega arith)
        ∙ ap (λ l. byte s at ∷ l) (next (at + 1) (omega arith))
        ∙ rw (e, word-high s b at, word_low s b at)

    pub unrolls : (at place : ℕ) → place ≡ at + 2 → place + word s at ≤ length s
        → drop at s ≡ counted (part s place (word s at)) ++ drop (place + word s at) s
    unrolls at place e h =
        words at (omega arith)
        ∙ rw (← e, length_part s place (word s at) h)
        (ap (λ l. two_bytes (word s at) ++ l) (sym (rw (← drop-drop (word s at) place s) (take-append-drop (word s at) (drop place s)))))

    pub clean-laid : Clean s → s ≡ laid (name_in s) (byte s (target_at s)) (target_bytes_in s) (user_in s)
    clean-laid c =
        let sized : 3 ≤ length s = c.head.sized in
        let aim : target_at s + 3 ≤ length s = c.target.sized in
        let end : user_at s + 2 + word s (user_at s) ≡ length s = c.user.ends in
        next 0 (omega arith)
        ∙ ap (λ n. n ∷ drop 1 s) c.head.event
        ∙ ap (λ l. 0 ∷ l) (unrolls 1 3 refl c.head.ends)
        ∙ ap (λ l. 0 ∷ (counted (name_in s) ++ l)) (next (target_at s) (omega arith))
        ∙ ap (λ l. 0 ∷ (counted (name_in s) ++ (byte s (target_at s) ∷ l)))
        (unrolls (target_at s + 1) (target_at s + 3) (omega arith) c.target.ends
        ∙ ap (λ l. counted (target_bytes_in s) ++ l)
        (unrolls (user_at s) (user_at s + 2) refl (omega arith)
        ∙ ap (λ n. counted (user_in s) ++ drop n s) end
        ∙ ap (λ l. counted (user_in s) ++ l) (drop-length s)
        ∙ append-nil (counted (user_in s))))

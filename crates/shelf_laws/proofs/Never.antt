-- From a fresh shelf with a store of 65,536 bytes, whatever they are, no call of any history is answered 17 or 18.
use mathlib.Core.List.{List, [], ◌∷◌}
use mathlib.Core.Path.{◌≡◌}
use Prim.Native.Nat.{ℕ, ◌<◌}
use native.Mathlib.Omega.{arith}
use Rattle.std.specs.Prelude.{Result, Ok, Err}
use Rattle.refusal.specs.Refusal.{number_of}
use Rattle.refusal.specs.declared.Refusal.{Refusal}
use Rattle.shelf.specs.Record.{fresh}
use Rattle.shelf_laws.specs.History.{Reply, copied, wholly, lacking, saved, reply_no, Entry, offered, loaded, released, asked, logged, number_in, Each}
use Rattle.shelf_laws.specs.Laws.{Never17Nor18}
use Rattle.shelf_laws.proofs.Ranges.{Ranging, AnyRange, SizeRange, ReplyRange, Range, ranges-from}
use Rattle.shelf_laws.proofs.Histories.{fresh_holds}

-- neither 17 nor 18
abbrev Late : ℕ → Type 0
Late n = (n ≡ 17 → ⊥) × (n ≡ 18 → ⊥)

none-given : Late 0
none-given = (λ e. omega arith, λ e. omega arith)

late : {A : Type 0} (p : A → Type 0) (a : Result A Refusal) → Ranging p a → Late (number_of a)
late p (Ok a) r = none-given
late p (Err e) r = (r.2, r.3)

done-late : {A : Type 0} (a : Result A Refusal) → AnyRange a → Late (number_of a)
done-late = late (λ _. Unit {0})

size-late : (a : Result ℕ Refusal) → SizeRange a → Late (number_of a)
size-late = late (λ n. n < 65536)

reply-late : (a : Reply) → ReplyRange a → Late (reply_no a)
reply-late (copied c) r = size-late c.said r
reply-late (wholly said) r = done-late said r
reply-late (lacking said) r = done-late said r
reply-late (saved c) r = size-late c.said r

pub entry-late : (e : Entry) → Range e → Late (number_in e)
entry-late (offered payload said) r = done-late said r
entry-late (loaded file said) r = done-late said r
entry-late (released key said) r = done-late said r
entry-late (asked question said) r = reply-late said r

neither : (log : List Entry) → Each Range log → Each (λ e. (number_in e ≡ 17 → ⊥) × (number_in e ≡ 18 → ⊥)) log
neither [] r = tt
neither (e ∷ log) r =
    (entry-late e r.0, neither log r.1)

pub never-17-18 : Never17Nor18
never-17-18 store lent h =
    neither (logged (record { shelf = fresh; store = store }) [] h)
    (ranges-from (record { shelf = fresh; store = store }) [] (fresh_holds store lent) tt h)

-- What is proved of keys, in words: each statement is a theorem of `proofs/` by the same name in small letters.
use Rattle.std.specs.Prelude.{ℕ, ◌≡◌, Bool, true, ◌↔◌}
use Rattle.key.specs.declared.Key.{Key}
use Rattle.key.specs.Key.{nrt_it, key_from, same_key}

-- two keys are one exactly when each of the four is the same, which is when they are equal
abbrev pub OneKey : Key → Key → Type 0
OneKey a b = (a.table ≡ b.table) × (a.extension ≡ b.extension) × (a.service ≡ b.service) × (a.start ≡ b.start)

abbrev pub SameExactly : Type 0
SameExactly = (a b : Key) → (same_key a b ≡ true) ↔ OneKey a b

abbrev pub OneIs : Type 0
OneIs = (a b : Key) → OneKey a b → a ≡ b

-- of a table of another id than the NRT-IT's the last two numbers mean nothing
abbrev pub OthersByExtension : Type 0
OthersByExtension =
    (table extension service start other begin : ℕ)
    → ¬ (table ≡ nrt_it)
    → key_from table extension service start ≡ key_from table extension other begin

-- NRT-ITs are one table exactly when extension, service_id and time_span_start are the same
abbrev pub ListsByAll : Type 0
ListsByAll =
    (extension service start extension' service' start' : ℕ)
    → (key_from nrt_it extension service start ≡ key_from nrt_it extension' service' start')
    ↔ ((extension ≡ extension') × (service ≡ service') × (start ≡ start'))

-- the first two of a key are the table id and the extension that were given, of every table
pub record BeginsWith (table extension service start : ℕ) : Type 0 where
  pub id : (key_from table extension service start).table ≡ table
  pub further : (key_from table extension service start).extension ≡ extension

-- .. and the last two are the service_id and the time_span_start that were given where it is an NRT-IT, and 0 of every other table
abbrev pub EndsWith : Type 0
EndsWith =
    (table extension service start : ℕ)
    → (table ≡ nrt_it → ((key_from table extension service start).service ≡ service) × ((key_from table extension service start).start ≡ start))
    × (¬ (table ≡ nrt_it) → ((key_from table extension service start).service ≡ 0) × ((key_from table extension service start).start ≡ 0))

-- a key of which nothing is left out: every key that `key_from` says is one
abbrev pub Proper : Key → Type 0
Proper key = key_from key.table key.extension key.service key.start ≡ key

abbrev pub FromProper : Type 0
FromProper = (table extension service start : ℕ) → Proper (key_from table extension service start)

-- two answers that keep the promise of `key::from`, or that of `key::same`, are equal
abbrev pub FromUnique : Type 0
FromUnique =
    (table extension service start : ℕ) (x y : Key)
    → x ≡ key_from table extension service start → y ≡ key_from table extension service start → x ≡ y

abbrev pub SameUnique : Type 0
SameUnique = (a b : Key) (x y : Bool) → x ≡ same_key a b → y ≡ same_key a b → x ≡ y

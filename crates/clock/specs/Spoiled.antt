-- 35, in the words of document 01's table. `Spoiled b` is proved to be what `spoiled b` tests (crate clock_laws).
use Rattle.std.specs.Prelude.{ℕ, ◌+◌, ◌<◌, ◌≤◌, ◌≡◌, true, false, length, get_or}
use Rattle.clock_activation.specs.declared.Activation.{Activation}
use Rattle.clock_activation.specs.declared.Held.{Held}
use Rattle.clock_activation.specs.Activation.{nobody}
use Rattle.clock_activation.specs.Limits.{memory}
use Rattle.clock_record.specs.Book.{Book}

-- one activation: equal application, event and time
pub record One (a b : Activation) : Type 0 where
  pub application : a.application ≡ b.application
  pub event : a.event ≡ b.event
  pub time : a.time ≡ b.time

-- the one held at a place
abbrev pub held_at : Book → ℕ → Held
held_at b i = get_or b.held i nobody

-- that activation is held
abbrev pub Holds : Book → Activation → Type 0
Holds b a = (i : ℕ) × (i < length b.held) × One a (held_at b i).activation

-- clock record spoiled: over 32 held, one for an application above 7, two alike, waiting at or before the clock,
-- applied but ahead of it, or applied and past its memory
pub data Spoiled (b : Book) : Type 0 where
  over : b.over ≡ true → Spoiled b
  above : (i : ℕ) → i < length b.held → 7 < (held_at b i).activation.application → Spoiled b
  alike : (i j : ℕ) → i < j → j < length b.held → One (held_at b i).activation (held_at b j).activation → Spoiled b
  reached : (i : ℕ) → i < length b.held → (held_at b i).applied ≡ false → (held_at b i).activation.time ≤ b.now → Spoiled b
  ahead : (i : ℕ) → i < length b.held → (held_at b i).applied ≡ true → b.now < (held_at b i).activation.time → Spoiled b
  past : (i : ℕ) → i < length b.held → (held_at b i).applied ≡ true → (held_at b i).activation.time + memory < b.now → Spoiled b

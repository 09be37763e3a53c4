-- Each field is written in exactly its columns.
use Rattle.std.specs.Prelude.{◌≡◌, ℕ, length, ℤ}
use Rattle.fields.specs.Angle.{angle_text, height_text}
use Rattle.fields.specs.Count.{index_text, count_text}
use Rattle.fields.specs.Epoch.{epoch_text, moment_text}
use Rattle.fields.specs.declared.epochs.Epoch.{Epoch}
use Rattle.fields.specs.declared.epochs.Moment.{Moment}

abbrev pub WidthsAreExact : Type 0
WidthsAreExact = ((e : Epoch) → length (epoch_text e) ≡ 12) × ((m : Moment) → length (moment_text m) ≡ 12)
    × ((z : ℤ) → length (angle_text z) ≡ 11) × ((z : ℤ) → length (height_text z) ≡ 7)
    × ((n : ℕ) → length (index_text n) ≡ 5) × ((n : ℕ) → length (count_text n) ≡ 5)

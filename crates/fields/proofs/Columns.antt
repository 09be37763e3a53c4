-- Each field fills its columns.
use Rattle.std.proofs.Common.{◌≡◌, ℕ, ◌/◌, ◌%◌, false, List, ◌∷◌, ◌++◌, length, ℤ, nat_abs, refl, ◌∙◌, arith}
use Rattle.std.proofs.lemmas.List.{length-append}
use Rattle.decimals.specs.Justify.{justified}
use Rattle.decimals.specs.Write.{below, fixed}
use Rattle.decimals.proofs.Fixed.{length-fixed}
use Rattle.decimals.proofs.Runs.{length-justified}
use Rattle.fields.specs.Angle.{angle_text, height_text}
use Rattle.fields.specs.Epoch.{epoch_text}
use Rattle.fields.specs.Widths.{WidthsAreExact}
use Rattle.fields.specs.declared.epochs.Epoch.{Epoch}
use Rattle.fields.specs.declared.epochs.Epoch.TheVariants.{Open, At}

epoch_width : (e : Epoch) → length (epoch_text e) ≡ 12
epoch_width Open = refl
epoch_width (At m) = refl

-- parts one after another
three_parts : (d m s t : List ℕ) → length d ≡ 3 → length m ≡ 2 → length s ≡ 2 → length t ≡ 2 → length (d ++ (32 ∷ (m ++ (32 ∷ (s ++ t))))) ≡ 11
three_parts d m s t a b e f = omega (arith, length-append d (32 ∷ (m ++ (32 ∷ (s ++ t)))), length-append m (32 ∷ (s ++ t)), length-append s t)

pub angle_width : (z : ℤ) → length (angle_text z) ≡ 11
angle_width z =
    let n : ℕ = nat_abs z in
    three_parts (justified (below z) 3 (n / 36000)) (justified false 2 (n / 600 % 60)) (justified false 2 (n % 600 / 10)) (46 ∷ fixed 1 n)
    (length-justified (below z) 3 (n / 36000)) (length-justified false 2 (n / 600 % 60)) (length-justified false 2 (n % 600 / 10)) refl

pub height_width : (z : ℤ) → length (height_text z) ≡ 7
height_width z =
    let n : ℕ = nat_abs z in
    length-append (justified (below z) 5 (n / 10)) (46 ∷ fixed 1 n) ∙ omega (arith, length-justified (below z) 5 (n / 10))

pub widths_are_exact : WidthsAreExact
widths_are_exact = (epoch_width, λ m. refl, angle_width, height_width, λ n. length-justified false 5 n, λ n. length-fixed 5 n)

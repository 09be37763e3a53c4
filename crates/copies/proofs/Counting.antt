-- How many cells are not zero.
use Rattle.std.proofs.Common.{◌≡◌, ℕ, suc, ◌+◌, ◌<◌, true, false, List, length, get_or, drop, ap, ◌∙◌}
use Rattle.copies.specs.Lengths.{nonzero}
use Rattle.decimals.specs.declared.number.Number.{Number}
use Rattle.std.proofs.lemmas.List.{drop_more}
use Rattle.std.proofs.lemmas.Bool.{cond-true, cond-false}
use Rattle.triangle.specs.Triangle.{is_zero_number}

pub nonzero_more : (vs : List Number) (i : ℕ) (d : Number) → i < length vs → is_zero_number (get_or vs i d) ≡ false → nonzero (drop i vs) ≡ suc (nonzero (drop (i + 1) vs))
nonzero_more vs i d lt t =
    ap nonzero (drop_more vs i d lt) ∙ cond-false (is_zero_number (get_or vs i d)) (nonzero (drop (i + 1) vs)) (suc (nonzero (drop (i + 1) vs))) t

pub nonzero-same : (vs : List Number) (i : ℕ) (d : Number) → i < length vs → is_zero_number (get_or vs i d) ≡ true → nonzero (drop i vs) ≡ nonzero (drop (i + 1) vs)
nonzero-same vs i d lt t =
    ap nonzero (drop_more vs i d lt) ∙ cond-true (is_zero_number (get_or vs i d)) (nonzero (drop (i + 1) vs)) (suc (nonzero (drop (i + 1) vs))) t

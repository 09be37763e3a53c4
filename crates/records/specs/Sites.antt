-- Sites and their lines.
use Rattle.std.specs.Prelude.{ℕ, List, replicate, ℤ, pos, Ok, Result}
use Rattle.std.specs.declared.cmp.Ordering.{Ordering}
use Rattle.refusals.specs.declared.Fault.{Fault}
use Rattle.codes.specs.Codes.{read_technique}
use Rattle.codes.specs.declared.letters.Technique.TheVariants.{Combined}
use Rattle.codes.specs.Text.{read_text, read_description, check_blank}
use Rattle.fields.specs.Angle.{columns, read_longitude, read_latitude, read_height}
use Rattle.headings.specs.Lines.{and_then}
use Rattle.records.specs.Keys.{site_key_order, blank_site_key, read_site_key, pick_site_key}
use Rattle.records.specs.declared.keys.SiteKey.{SiteKey}
use Rattle.records.specs.declared.sites.Site.{Site}

abbrev pub site_order : Site → Site → Ordering
site_order a b = site_key_order a.key b.key

-- blanks and zeros but for the key
abbrev pub site_with : SiteKey → Site
site_with key = record { key = key; monument = replicate 9 32; technique = Combined; description = replicate 22 32; longitude = pos 0; latitude = pos 0; height = pos 0 }

abbrev pub blank_site : Site
blank_site = site_with blank_site_key

-- columns count from 0 here and below
abbrev pub read_position : List ℕ → Result (ℤ × ℤ × ℤ) Fault
read_position bs =
    and_then (read_longitude (columns 0 11 bs)) (λ longitude.
    and_then (check_blank (columns 11 12 bs)) (λ _.
    and_then (read_latitude (columns 12 23 bs)) (λ latitude.
    and_then (check_blank (columns 23 24 bs)) (λ _.
    and_then (read_height (columns 24 31 bs)) (λ height.
    and_then (check_blank (columns 31 36 bs)) (λ _.
    Ok (longitude, latitude, height)))))))

abbrev pub read_site : List ℕ → Result Site Fault
read_site line =
    and_then (read_site_key (columns 1 8 line)) (λ key.
    and_then (check_blank (columns 8 9 line)) (λ _.
    and_then (read_text 9 (columns 9 18 line)) (λ monument.
    and_then (check_blank (columns 18 19 line)) (λ _.
    and_then (read_technique (columns 19 20 line)) (λ technique.
    and_then (check_blank (columns 20 21 line)) (λ _.
    and_then (read_description 22 (columns 21 43 line)) (λ description.
    and_then (check_blank (columns 43 44 line)) (λ _.
    and_then (read_position (columns 44 80 line)) (λ place.
    Ok (record { key = key; monument = monument; technique = technique; description = description; longitude = place.0; latitude = place.1; height = place.2 }))))))))))

-- a site known by the key that a line names, and blank otherwise
abbrev pub site_named : List ℕ → Result Site Fault
site_named line = and_then (pick_site_key (columns 1 8 line)) (λ key. Ok (site_with key))

-- The lines of a fair copy, as their 80 columns: the parts of each line one after another. Here the header.
use Rattle.std.specs.Prelude.{ℕ, List, [], ◌∷◌, ◌++◌, replicate, None, codes, Option, slice_index_or}
use Rattle.codes.specs.Codes.{technique_letter, constraint_digit, place_letter}
use Rattle.codes.specs.declared.letters.Contents.{Contents}
use Rattle.fields.specs.Count.{count_text}
use Rattle.fields.specs.Epoch.{moment_text}
use Rattle.headings.specs.declared.headers.Header.{Header}

abbrev pub joined : List (List ℕ) → List ℕ
joined [] = []
joined (p ∷ ps) = p ++ joined ps

abbrev pub blanks : ℕ → List ℕ
blanks n = replicate n 32

abbrev pub agencies_parts : Header → List (List ℕ)
agencies_parts h = blanks 1 ∷ h.file_agency ∷ blanks 1 ∷ moment_text h.created ∷ blanks 1 ∷ h.data_agency ∷ []

abbrev pub agencies_text : Header → List ℕ
agencies_text h = joined (agencies_parts h)

abbrev pub period_parts : Header → List (List ℕ)
period_parts h = blanks 1 ∷ moment_text h.start ∷ blanks 1 ∷ moment_text h.end ∷ []

abbrev pub period_text : Header → List ℕ
period_text h = joined (period_parts h)

-- blank, and the letter of place i or blank
abbrev pub letter_text : ℕ → List (Option Contents) → List ℕ
letter_text i letters = 32 ∷ place_letter (slice_index_or letters i None) ∷ []

-- six places, blank
abbrev pub letters_text : List (Option Contents) → List ℕ
letters_text l = letter_text 0 l ++ (letter_text 1 l ++ (letter_text 2 l ++ (letter_text 3 l ++ (letter_text 4 l ++ (letter_text 5 l ++ blanks 1)))))

-- with the count of estimates and their letters
abbrev pub header_parts : Header → ℕ → List (Option Contents) → List (List ℕ)
header_parts h count letters = codes "%=SNX 2.02" ∷ agencies_text h ∷ period_text h ∷ blanks 1 ∷ (technique_letter h.technique ∷ []) ∷ blanks 1 ∷ count_text count ∷ blanks 1
    ∷ (constraint_digit h.constraint ∷ []) ∷ letters_text letters ∷ []

abbrev pub header_text : Header → ℕ → List (Option Contents) → List ℕ
header_text h count letters = joined (header_parts h count letters)

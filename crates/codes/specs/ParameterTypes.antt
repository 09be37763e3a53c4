-- The parameter types.
use Rattle.std.specs.Prelude.{◌≡◌, ℕ, ◌<◌, Bool, false, cond, ◌||◌, List, [], ◌∷◌, ◌++◌, length, take, Some, None, Ok, Err, codes, Option, Result, slice_index_or}
use Rattle.std.specs.List.{find}
use Rattle.refusals.specs.declared.Fault.{Fault}
use Rattle.refusals.specs.declared.Fault.TheVariants.{WrongType}
use Rattle.codes.specs.Order.{same_text}
use Rattle.codes.specs.Text.{padded, read_text}
use Rattle.codes.specs.declared.letters.Contents.{Contents}
use Rattle.codes.specs.declared.letters.Contents.TheVariants.{Stations, EarthOrientation, Troposphere, CelestialFrame, Antennas}
use Rattle.codes.specs.declared.types.ParameterType.{ParameterType}

-- whether a name begins with w
abbrev pub begins : List ℕ → List ℕ → Bool
begins w name = same_text (take (length w) name) w

-- types of stations, their velocities, the troposphere above them, and the offset of an antenna's axis
abbrev pub needs_station : List ℕ → Bool
needs_station name = begins (codes "STA") name || (begins (codes "VEL") name || (begins (codes "TRO") name || (begins (codes "TG") name || begins (codes "AXI_OF") name)))

-- the types of one unit and one contents letter
abbrev pub group : List ℕ → Contents → List (List ℕ) → List ParameterType
group unit letter [] = []
group unit letter (name ∷ names) =
    record { name = padded 6 name; unit = padded 4 unit; contents = letter; stationed = needs_station name } ∷ group unit letter names

unfoldable pub types : List ParameterType
types =
    group (codes "m") Stations (codes "STAX" ∷ codes "STAY" ∷ codes "STAZ" ∷ codes "XGC" ∷ codes "YGC" ∷ codes "ZGC" ∷ []) ++ (
    group (codes "m/y") Stations (codes "VELX" ∷ codes "VELY" ∷ codes "VELZ" ∷ []) ++ (
    group (codes "m") Troposphere (codes "TROTOT" ∷ codes "TRODRY" ∷ codes "TROWET" ∷ codes "TGNTOT" ∷ codes "TGNDRY" ∷ codes "TGNWET" ∷ codes "TGETOT" ∷ codes "TGEDRY" ∷ codes "TGEWET" ∷ []) ++ (
    group (codes "m") Antennas (codes "AXI_OF" ∷ codes "SATA_X" ∷ codes "SATA_Y" ∷ codes "SATA_Z" ∷ []) ++ (
    group (codes "ms") EarthOrientation (codes "LOD" ∷ codes "UT" ∷ []) ++ (
    group (codes "mas") EarthOrientation (codes "XPO" ∷ codes "YPO" ∷ codes "NUT_LN" ∷ codes "NUT_OB" ∷ codes "NUT_X" ∷ codes "NUT_Y" ∷ []) ++ (
    group (codes "ma/d") EarthOrientation (codes "XPOR" ∷ codes "YPOR" ∷ codes "NUTRLN" ∷ codes "NUTROB" ∷ codes "NUTR_X" ∷ codes "NUTR_Y" ∷ []) ++ (
    group (codes "rad") CelestialFrame (codes "RS_RA" ∷ codes "RS_DE" ∷ codes "RS_PL" ∷ []) ++ (
    group (codes "rd/y") CelestialFrame (codes "RS_RAR" ∷ codes "RS_DER" ∷ [])))))))))

-- what stands past the table
abbrev pub no_type : ParameterType
no_type = record { name = []; unit = []; contents = Stations; stationed = false }

abbrev pub first_named : List ℕ → List ParameterType → Option ParameterType
first_named name ts = find (λ t. same_text name t.name) ts

abbrev pub type_named : List ℕ → Option ParameterType
type_named name = first_named name types

abbrev pub in_unit : List ℕ → Option ParameterType → Result ParameterType Fault
in_unit unit None = Err WrongType
in_unit unit (Some t) = cond (same_text unit t.unit) (Ok t) (Err WrongType)

-- the type of a name, where the unit is its own
abbrev pub check_type : List ℕ → List ℕ → Result ParameterType Fault
check_type name unit = in_unit unit (type_named name)

-- the types of the table are found by their names, each with its unit
abbrev pub TypesComeBack : Type 0
TypesComeBack = (i : ℕ) → i < length types → (type_named (slice_index_or types i no_type).name ≡ Some (slice_index_or types i no_type))
    × (check_type (slice_index_or types i no_type).name (slice_index_or types i no_type).unit ≡ Ok (slice_index_or types i no_type))

-- a type that is found has the name that was sought and is in the table
abbrev pub TypesAreNamed : Type 0
TypesAreNamed = (name : List ℕ) (t : ParameterType) → type_named name ≡ Some t → (t.name ≡ name) × ((i : ℕ) × (i < length types) × (slice_index_or types i no_type ≡ t))

-- names and units are texts as they are kept
abbrev pub TypesAreTexts : Type 0
TypesAreTexts = (i : ℕ) → i < length types → (read_text 6 (slice_index_or types i no_type).name ≡ Ok (slice_index_or types i no_type).name) × (read_text 4 (slice_index_or types i no_type).unit ≡ Ok (slice_index_or types i no_type).unit)

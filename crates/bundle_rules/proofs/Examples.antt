-- Bundles written out, judged by computing.
use Prim.Native.Nat.{ℕ}
use Prim.Native.String.{String}
use mathlib.Core.Path.{◌≡◌, refl}
use mathlib.Core.List.{List, [], ◌∷◌, ◌++◌, map}
use lib.ListN.{length, take, replicate}
use Rattle.rules.specs.Text.{bytes, before}
use Rattle.bundle_rules.specs.declared.Refusal.TheVariants.{CutShort, BadName, BadBodies}
use Rattle.bundle_rules.specs.Numbers.{bytes_of, value_of, number_length}
use Rattle.bundle_rules.specs.Bundled.{name_length, Entry, Row, table_bytes, placed, bodies, bundled, zeros, well_named}
use Rattle.bundle_rules.specs.Reading.{rows_of, names_of, sizes_of, entries_of, in_order, ground_of, refused, holds, read_as}

abbrev name : String → List ℕ
name m = take name_length (bytes m ++ replicate name_length 0)

-- no scripts

none_bundled : bundled [] ≡ 0 ∷ 0 ∷ 0 ∷ 0 ∷ []
unfolding bytes_of table_bytes placed bodies
none_bundled = refl

none_read : read_as (0 ∷ 0 ∷ 0 ∷ 0 ∷ []) ≡ holds []
unfolding value_of rows_of names_of sizes_of entries_of well_named in_order ground_of read_as
none_read = refl

-- two scripts

two : List Entry
two = record { name = name "k1"; body = bytes "S 0 0 2\nT 0 1\n" } ∷ record { name = name "empty"; body = [] } ∷ []

two_bytes : List ℕ
two_bytes =
    0x02 ∷ 0x00 ∷ 0x00 ∷ 0x00 ∷ 0x6b ∷ 0x31 ∷ 0x00 ∷ 0x00 ∷ 0x00 ∷ 0x00 ∷ 0x00 ∷ 0x00 ∷ 0x00 ∷ 0x00 ∷ 0x00 ∷ 0x00 ∷ 0x00 ∷ 0x00 ∷ 0x00 ∷ 0x00
    ∷ 0x34 ∷ 0x00 ∷ 0x00 ∷ 0x00 ∷ 0x0e ∷ 0x00 ∷ 0x00 ∷ 0x00 ∷ 0x65 ∷ 0x6d ∷ 0x70 ∷ 0x74 ∷ 0x79 ∷ 0x00 ∷ 0x00 ∷ 0x00 ∷ 0x00 ∷ 0x00 ∷ 0x00 ∷ 0x00
    ∷ 0x00 ∷ 0x00 ∷ 0x00 ∷ 0x00 ∷ 0x42 ∷ 0x00 ∷ 0x00 ∷ 0x00 ∷ 0x00 ∷ 0x00 ∷ 0x00 ∷ 0x00
    ∷ 0x53 ∷ 0x20 ∷ 0x30 ∷ 0x20 ∷ 0x30 ∷ 0x20 ∷ 0x32 ∷ 0x0a ∷ 0x54 ∷ 0x20 ∷ 0x30 ∷ 0x20 ∷ 0x31 ∷ 0x0a ∷ []

two_bundled : bundled two ≡ two_bytes
unfolding two two_bytes bytes_of table_bytes placed bodies
two_bundled = refl

two_read : read_as two_bytes ≡ holds two
unfolding two two_bytes before value_of rows_of names_of sizes_of entries_of zeros well_named in_order ground_of read_as
two_read = refl

-- refusals

row : String → ℕ → ℕ → Row
row m at n = record { name = name m; offset = at; size = n }

made : List Row → String → List ℕ
made rs bs = bytes_of number_length (length rs) ++ (table_bytes rs ++ bytes bs)

wrong : List (List ℕ)
wrong =
    (0 ∷ 0 ∷ 0 ∷ [])
    ∷ (0x01 ∷ 0x01 ∷ 0x00 ∷ 0x00 ∷ [])
    ∷ (0xab ∷ 0xaa ∷ 0xaa ∷ 0x0a ∷ replicate 8 0)
    ∷ made (row "a" 99 0 ∷ row "a\0b" 52 0 ∷ []) ""
    ∷ (0 ∷ 0 ∷ 0 ∷ 0 ∷ 0 ∷ [])
    ∷ made (row "a" 53 1 ∷ row "b" 52 1 ∷ []) "xy"
    ∷ made (row "a" 52 0 ∷ row "b" 0 0 ∷ []) ""
    ∷ made (row "a" 52 4294967295 ∷ row "b" 51 1 ∷ []) ""
    ∷ []

wrong_refused : map read_as wrong ≡ refused CutShort ∷ refused CutShort ∷ refused CutShort ∷ refused BadName ∷ refused BadBodies ∷ refused BadBodies ∷ refused BadBodies ∷ refused BadBodies ∷ []
unfolding row made wrong table_bytes bytes_of before value_of rows_of names_of sizes_of entries_of zeros well_named in_order ground_of read_as
wrong_refused = refl

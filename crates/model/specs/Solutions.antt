-- Solutions, and when two are the same.
use Rattle.std.specs.Prelude.{◌≡◌, ℕ, ◌<◌, List, length, Option}
use Rattle.decimals.specs.Number.{zero_number}
use Rattle.decimals.specs.declared.number.Number.{Number}
use Rattle.model.specs.Pairings.{Pairing}
use Rattle.headings.specs.declared.headers.Head.{Head}
use Rattle.records.specs.Parameters.{parameter_order}
use Rattle.records.specs.Sites.{site_order}
use Rattle.records.specs.Spans.{span_order}
use Rattle.records.specs.declared.parameters.Parameter.{Parameter}
use Rattle.records.specs.declared.sites.Site.{Site}
use Rattle.records.specs.declared.spans.Span.{Span}
use Rattle.tables.specs.Keys.{Rising}
use Rattle.triangle.specs.Triangle.{cell, tri}

-- What a file states, and what a register holds: a head or none, records, and a symmetric matrix over the estimates, kept as its
-- lower triangle under the numbering that the list of estimates gives.
pub record Solution : Type 0 where
  pub head : Option Head
  pub sites : List Site
  pub spans : List Span
  pub estimates : List Parameter
  pub aprioris : List Parameter
  pub cells : List Number

-- the cell of the estimates with the numbers i and j, from 0
abbrev pub cell_of : Solution → ℕ → ℕ → Number
cell_of s i j = cell zero_number s.cells i j

-- Two solutions are the same: equal heads; sites, spans and a prioris that are equal in any order; and a one-to-one pairing of
-- the estimates that keeps every field and the cell of each two, or of one with itself.
pub record Same (a b : Solution) : Type 0 where
  pub head : a.head ≡ b.head
  pub sites : Pairing a.sites b.sites
  pub spans : Pairing a.spans b.spans
  pub aprioris : Pairing a.aprioris b.aprioris
  pub estimates : Pairing a.estimates b.estimates
  pub cells : (i j : ℕ) → i < length a.estimates → j < length a.estimates → cell_of b (estimates.to i) (estimates.to j) ≡ cell_of a i j

-- as a register keeps a solution: the keys of each table rise, and the triangle has just the rows of its estimates
pub record Ordered (s : Solution) : Type 0 where
  pub sites : Rising site_order s.sites
  pub spans : Rising span_order s.spans
  pub estimates : Rising parameter_order s.estimates
  pub aprioris : Rising parameter_order s.aprioris
  pub whole : length s.cells ≡ tri (length s.estimates)

-- being the same is an equivalence
pub record SameIsEquivalence : Type 0 where
  pub reflexive : (a : Solution) → Same a a
  pub symmetric : (a b : Solution) → Same a b → Same b a
  pub transitive : (a b c : Solution) → Same a b → Same b c → Same a c

-- two solutions as registers keep them are the same exactly where they are equal
abbrev pub OrderedSameAreEqual : Type 0
OrderedSameAreEqual = (a b : Solution) → Ordered a → Ordered b → (Same a b → a ≡ b) × (a ≡ b → Same a b)

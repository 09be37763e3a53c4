-- Being the same solution.
use Rattle.std.proofs.Common.{◌≡◌, ℕ, ◌<◌, ◌≤◌, max, List, length, sym, refl, ap, ◌∙◌, subst, ap₂, inl, inr, arith}
use Rattle.decimals.specs.Number.{zero_number}
use Rattle.decimals.specs.declared.number.Number.{Number}
use Rattle.model.proofs.Matched.{paired_equal, paired_places, pairing_refl, pairing_sym, pairing_trans}
use Rattle.model.specs.Solutions.{Ordered, OrderedSameAreEqual, Same, SameIsEquivalence, Solution, cell_of}
use Rattle.records.specs.KeyOrders.{parameter_order_lem, site_order_lem, span_order_lem}
use Rattle.records.specs.Parameters.{parameter_order}
use Rattle.records.specs.Sites.{site_order}
use Rattle.records.specs.Spans.{span_order}
use Rattle.std.proofs.lemmas.List.{get_or_past}
use Rattle.std.proofs.lemmas.Bool.{cases_lt}
use Rattle.triangle.proofs.Drawn.{pinned}
use Rattle.triangle.proofs.Tri.{tri_le}
use Rattle.triangle.specs.Triangle.{cell, spot, tri}

same_refl : (a : Solution) → Same a a
same_refl a = record {
  head = refl;
  sites = pairing_refl a.sites;
  spans = pairing_refl a.spans;
  aprioris = pairing_refl a.aprioris;
  estimates = pairing_refl a.estimates;
  cells = λ i j h k. refl;
}

same_sym : (a b : Solution) → Same a b → Same b a
same_sym a b s = record {
  head = sym s.head;
  sites = pairing_sym _ _ s.sites;
  spans = pairing_sym _ _ s.spans;
  aprioris = pairing_sym _ _ s.aprioris;
  estimates = pairing_sym _ _ s.estimates;
  cells = λ i j h k.
      let p = s.estimates in
      sym (s.cells (p.back i) (p.back j) (p.onto i h) (p.onto j k)) ∙ ap₂ (cell_of b) (p.to_back i h) (p.to_back j k);
}

same-trans : (a b c : Solution) → Same a b → Same b c → Same a c
same-trans a b c s t = record {
  head = s.head ∙ t.head;
  sites = pairing_trans _ _ _ s.sites t.sites;
  spans = pairing_trans _ _ _ s.spans t.spans;
  aprioris = pairing_trans _ _ _ s.aprioris t.aprioris;
  estimates = pairing_trans _ _ _ s.estimates t.estimates;
  cells = λ i j h k.
      let p = s.estimates in
      t.cells (p.to i) (p.to j) (p.into i h) (p.into j k) ∙ s.cells i j h k;
}

pub same_equivalence : SameIsEquivalence
same_equivalence = record { reflexive = same_refl; symmetric = same_sym; transitive = same-trans }

-- past the last row there is nothing
pub cell-past : (xs : List Number) (n i j : ℕ) → length xs ≡ tri n → n ≤ max i j → cell zero_number xs i j ≡ zero_number
cell-past xs n i j e h = get_or_past xs (spot i j) zero_number (omega (arith, tri_le n (max i j) h))

same-cells : (a b : Solution) → Ordered a → Ordered b → a.estimates ≡ b.estimates → Same a b → a.cells ≡ b.cells
same-cells a b ka kb p s =
    let n = length a.estimates in
    let m : n ≡ length b.estimates = ap length p in
    let t : tri n ≡ tri (length b.estimates) = ap tri m in
    let places = paired_places parameter_order parameter_order_lem a.estimates b.estimates ka.estimates p s.estimates in
    pinned zero_number a.cells b.cells (ka.whole ∙ (t ∙ sym kb.whole)) (λ i j.
    elim (cases_lt (max i j) n) [
      | inl h ↦
          let hi : i < n = omega arith in
          let hj : j < n = omega arith in
          sym (sym (ap₂ (cell_of b) (places i hi) (places j hj)) ∙ s.cells i j hi hj)
      | inr h ↦ cell-past a.cells n i j ka.whole h ∙ sym (cell-past b.cells n i j (kb.whole ∙ sym t) h)
    ])

same_equal : (a b : Solution) → Ordered a → Ordered b → Same a b → a ≡ b
same_equal a b ka kb s =
    let sites = paired_equal site_order site_order_lem _ _ ka.sites kb.sites s.sites in
    let spans = paired_equal span_order span_order_lem _ _ ka.spans kb.spans s.spans in
    let aprioris = paired_equal parameter_order parameter_order_lem _ _ ka.aprioris kb.aprioris s.aprioris in
    let estimates = paired_equal parameter_order parameter_order_lem _ _ ka.estimates kb.estimates s.estimates in
    let cells = same-cells a b ka kb estimates s in
    λ i. record { head = s.head i; sites = sites i; spans = spans i; estimates = estimates i; aprioris = aprioris i; cells = cells i }

pub ordered_equal : OrderedSameAreEqual
ordered_equal a b ka kb = (same_equal a b ka kb, λ e. subst (Same a) e (same_refl a))

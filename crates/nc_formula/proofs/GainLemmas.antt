-- Nodes that are gained, step by step, and what makes a store crowded.
use Rattle.std.proofs.Common.{◌+◌, Bool, [], ◌++◌, length, refl, sym, ap, ◌∙◌, inl, inr, ◌⊎◌, arith, append_assoc}
use Rattle.std.proofs.lemmas.Bool.{cases_lt}
use Rattle.std.proofs.lemmas.List.Elements.{All-weaker}
use Rattle.nc_diagram.specs.Sets.{Members, Same, IsLowestFixed}
use Rattle.nc_diagram.specs.Diagrams.{Diagrams, meaning, Adds, Grows, HasNoRoom, IsHeld, IsCrowded}
use Rattle.nc_diagram.proofs.GrowthLemmas.{Keeps-added, IsLowestFixed-same}
use Rattle.nc_formula.specs.Parts.{IsFixed, Gains, IsCrowdedBy}

-- a set of functions, as of bases
abbrev pub Bases : Type 1
Bases = (Members → Bool) → Type 0

-- each function of the first is one of the second
abbrev pub Within : Bases → Bases → Type 0
Within A B = (b : Members → Bool) → A b → B b

pub fixed-wider : (A B : Bases) → Within A B → (h : Members → Bool) → IsFixed A h → IsFixed B h
fixed-wider A B within h p = record { base = p.base; is_base = within p.base p.is_base; fixed = p.fixed }

-- a part stays one under another name
pub fixed-same : (A : Bases) (g h : Members → Bool) → IsFixed A g → Same h g → IsFixed A h
fixed-same A g h p e = record { base = p.base; is_base = p.is_base; fixed = IsLowestFixed-same p.base g h p.fixed e }

-- what grows by parts of one kind grows by those of a wider one
grows-wider : (P Q : Bases) → Within P Q → (old new : Diagrams) → Grows P old new → Grows Q old new
grows-wider P Q within old new g = record {
  same_limit = g.same_limit;
  kept = g.kept;
  unchanged = g.unchanged;
  parts = λ r low high. within (meaning new.nodes r) (g.parts r low high);
}

no-room-wider : (P Q : Bases) → Within P Q → (old : Diagrams) → HasNoRoom P old → HasNoRoom Q old
no-room-wider P Q within old c = record {
  functions = c.functions;
  more = c.more;
  distinct = c.distinct;
  not_constant = c.not_constant;
  each = All-weaker (λ h. IsHeld old.nodes h ⊎ P h) (λ h. IsHeld old.nodes h ⊎ Q h)
      (λ h w. elim w [ inl held ↦ inl held | inr part ↦ inr (within h part) ]) c.functions c.each;
}

pub gains-none : (A : Bases) (d : Diagrams) → Gains A d d
gains-none A d = record { same_limit = refl; kept = ([], refl); unchanged = Keeps-added [] d.nodes; parts = λ r low high. absurd (omega arith) }

-- a base with its lowest variables fixed
base-fixed : (A : Bases) (f : Members → Bool) → A f → Within (IsLowestFixed f) (IsFixed A)
base-fixed A f base h fixed = record { base = f; is_base = base; fixed = fixed }

-- what an operation with a base as its result adds
pub gains-adds : (A : Bases) (f : Members → Bool) (old new : Diagrams) → A f → Adds f old new → Gains A old new
gains-adds A f old new base a = grows-wider (IsLowestFixed f) (IsFixed A) (base-fixed A f base) old new a

pub gains-wider : (A B : Bases) (old new : Diagrams) → Within A B → Gains A old new → Gains B old new
gains-wider A B old new within g = grows-wider (IsFixed A) (IsFixed B) (fixed-wider A B within) old new g

-- one gain after another
pub gains-more : (A : Bases) (old now new : Diagrams) → Gains A old now → Gains A now new → Gains A old new
gains-more A old now new g h = record {
  same_limit = h.same_limit ∙ g.same_limit;
  kept = (h.kept.0 ++ g.kept.0, h.kept.1 ∙ ap (λ ns. h.kept.0 ++ ns) g.kept.1 ∙ sym (append_assoc h.kept.0 g.kept.0 old.nodes));
  unchanged = λ r b. (let first = g.unchanged r b in let next = h.unchanged r first.0 in (next.0, λ s. next.1 s ∙ first.1 s));
  parts = λ r low high. elim (cases_lt r (length now.nodes + 2)) [
    | inl early ↦ fixed-same A (meaning now.nodes r) (meaning new.nodes r) (g.parts r low early) (h.unchanged r early).1
    | inr late ↦ h.parts r late high
  ];
}

-- an operation with a base as its result that found no room
pub crowded-by : (A : Bases) (f : Members → Bool) (old : Diagrams) → A f → IsCrowded f old → IsCrowdedBy A old
crowded-by A f old base c = no-room-wider (IsLowestFixed f) (IsFixed A) (base-fixed A f base) old c

pub crowded-wider : (A B : Bases) (old : Diagrams) → Within A B → IsCrowdedBy A old → IsCrowdedBy B old
crowded-wider A B old within c = no-room-wider (IsFixed A) (IsFixed B) (fixed-wider A B within) old c

-- a store that is crowded after a gain was so before: each node gained is a part
pub crowded-before : (A : Bases) (old now : Diagrams) → Gains A old now → IsCrowdedBy A now → IsCrowdedBy A old
crowded-before A old now g c = record {
  functions = c.functions;
  more = omega (arith, c.more, g.same_limit);
  distinct = c.distinct;
  not_constant = c.not_constant;
  each = All-weaker (λ h. IsHeld now.nodes h ⊎ IsFixed A h) (λ h. IsHeld old.nodes h ⊎ IsFixed A h)
      (λ h w. elim w [ inl held ↦ earlier h held | inr part ↦ inr part ]) c.functions c.each;
}
  where
    earlier : (h : Members → Bool) → IsHeld now.nodes h → IsHeld old.nodes h ⊎ IsFixed A h
    earlier h (r, two, belongs, same) = elim (cases_lt r (length old.nodes + 2)) [
      | inl early ↦ inl (r, two, early, λ s. same s ∙ (g.unchanged r early).1 s)
      | inr late ↦ inr (fixed-same A (meaning now.nodes r) h (g.parts r late belongs) same)
    ]

-- Answers of earlier operations stay true while nodes are added.
use Rattle.std.proofs.Common.{◌≡◌, ◌⊎◌, ℕ, ◌<◌, Bool, true, List, [], Option, Some, None, Result, Ok, Err, OnOk, OnErr, IfSome, Contains, get_or, take, replicate, ◌++◌, refl, sym, subst, ◌∙◌, inl, inr, arith}
use Rattle.std.proofs.lemmas.Bool.{false≢true}
use Rattle.std.proofs.lemmas.List.Elements.{All-append, All-take, All-replicate}
use Rattle.std.specs.Map.{lookup}
use Rattle.lru.specs.LruCache.{LruCache, lru_cache, put_entries}
use Rattle.lru.proofs.CallerLemmas.{Contains-lookup, Contains-put_entries}
use Rattle.nc_diagram.specs.declared.node.Node.{Node}
use Rattle.nc_diagram.specs.declared.apply.Operator.{Operator}
use Rattle.nc_diagram.specs.declared.apply.Operator.TheVariants.{And, Or}
use Rattle.nc_diagram.specs.declared.apply.Pair.{Pair}
use Rattle.nc_diagram.specs.declared.recent.Question.{Question}
use Rattle.nc_diagram.specs.declared.table.Slot.{Slot}
use Rattle.nc_diagram.specs.Operations.{IsAnswer}
use Rattle.nc_diagram.specs.contracts.recent.QuestionPartialEq.TheImpl.{eq-value}
use Rattle.nc_diagram.specs.Recent.{AreAnswers, AreKept}
use Rattle.nc_diagram.specs.Table.{AreRight}
use Rattle.nc_diagram.proofs.GrowthLemmas.{Keeps}
use Rattle.nc_diagram.proofs.ApplyLemmas.{pair_same, joint-kept}
use Rattle.nc_diagram.proofs.PairLemmas.{IsDecided-same}

-- the test of questions tells them apart
same_parts : (o m : Operator) (p q : Pair) → eq-value.it (record { operator = o; pair = p }) (record { operator = m; pair = q }) ≡ true → (o ≡ m) × (p ≡ q)
same_parts And And p q h = (refl, pair_same p q h)
same_parts And Or p q h = absurd (false≢true h)
same_parts Or And p q h = absurd (false≢true h)
same_parts Or Or p q h = (refl, pair_same p q h)

pub question_same : (p q : Question) → eq-value.it p q ≡ true → p ≡ q
question_same p q h = let same = same_parts p.operator q.operator p.pair q.pair h in λ i. record { operator = same.0 i; pair = same.1 i }

-- a look-up finds an entry of the key
pub found-kept : (test : Question → Bool) (question : Question) → ((k : Question) → test k ≡ true → question ≡ k) → (es : List (Question × ℕ)) (o : Option ℕ) → o ≡ lookup test es → IfSome o (λ place. Contains es (question, place))
found-kept test question same es None e = tt
found-kept test question same es (Some v) e = let r = Contains-lookup test es v (sym e) in subst (λ k. Contains es (k, v)) (sym (same r.0 r.2)) r.1

-- an entry after `put` was there before, or is the one that was put
pub put-kept : {E : Type 0} (eq : Question → Question → Bool) → ((p q : Question) → eq p q ≡ true → p ≡ q) → (question : Question) (place : ℕ) (c new : LruCache Question ℕ) (r : Result (Option ℕ) E) → OnOk r (new ≡ lru_cache (put_entries eq c question place) c.cap) → OnErr r (new ≡ c)
    → (e : Question × ℕ) → Contains new.entries e → (e ≡ (question, place)) ⊎ Contains c.entries e
put-kept eq same question place c new (Err x) ok err e h = inr (subst (λ (d : LruCache Question ℕ). Contains d.entries e) err h)
put-kept eq same question place c new (Ok x) ok err e h =
    elim (Contains-put_entries eq c question place e (subst (λ (d : LruCache Question ℕ). Contains d.entries e) ok h)) [
      | inl was ↦ inr was
      | inr put ↦ inl (let key : e.0 ≡ question = elim put.1 [ inl is ↦ is | inr there ↦ sym (same question e.0 there.2) ] in λ i. (key i, put.0 i))
    ]

answers-none : (nodes : List Node) → AreAnswers nodes []
answers-none nodes q r h = let none : h.0 < 0 = h.1 in absurd (omega arith)

IsAnswer-more : (now new : List Node) (operator : Operator) (p : Pair) (r : ℕ) → Keeps now new → IsAnswer now operator p r → IsAnswer new operator p r
IsAnswer-more now new operator p r keeps is =
    let more = keeps r is.belongs in
    record {
      belong = ((keeps p.left is.belong.0).0, (keeps p.right is.belong.1).0);
      belongs = more.0;
      value = λ s. more.1 s ∙ is.value s ∙ sym (joint-kept operator now new keeps p is.belong s);
    }

answers-more : (now new : List Node) (kept : List (Question × ℕ)) → Keeps now new → AreAnswers now kept → AreAnswers new kept
answers-more now new kept keeps are q r h = IsAnswer-more now new q.operator q.pair r keeps (are q r h)

pub AreRight-more : (now new : List Node) (operator : Operator) (slots : List Slot) → Keeps now new → AreRight now operator slots → AreRight new operator slots
AreRight-more now new operator slots keeps are k d h = let e = get_or slots k d in IsAnswer-more now new operator e.pair e.place keeps (are k d h)

pub AreRight-none : (nodes : List Node) (operator : Operator) (slots : List Slot) → slots ≡ [] → AreRight nodes operator slots
AreRight-none nodes operator slots none = subst (AreRight nodes operator) (sym none) (λ k d h. absurd (omega (arith, h)))

-- an empty slot is true by either operator
pub none-IsAnswer : (nodes : List Node) (operator : Operator) → IsAnswer nodes operator (record { left = 0; right = 0 }) 0
none-IsAnswer nodes operator =
    record { belong = (omega arith, omega arith); belongs = omega arith; value = (IsDecided-same operator (record { left = 0; right = 0 }) refl).value nodes }

pub AreRight-room : (nodes : List Node) (operator : Operator) (n k : ℕ) (slots : List Slot) → AreRight nodes operator slots
    → AreRight nodes operator (take n slots ++ replicate k (record { pair = record { left = 0; right = 0 }; place = 0; call = 0 }))
AreRight-room nodes operator n k slots are =
    let none : Slot = record { pair = record { left = 0; right = 0 }; place = 0; call = 0 } in
    let right : Slot → Type 0 = λ e. IsAnswer nodes operator e.pair e.place in
    All-append right (take n slots) (replicate k none) (All-take right n slots are) (All-replicate right k none (none-IsAnswer nodes operator))

-- all that is kept
pub AreKept-none : (nodes : List Node) (kept : List (Question × ℕ)) (conjunctions disjunctions : List Slot) → kept ≡ [] → conjunctions ≡ [] → disjunctions ≡ [] → AreKept nodes kept conjunctions disjunctions
AreKept-none nodes kept conjunctions disjunctions no_recent no_conjunctions no_disjunctions =
    record {
      recent = subst (AreAnswers nodes) (sym no_recent) (answers-none nodes);
      conjunctions = AreRight-none nodes And conjunctions no_conjunctions;
      disjunctions = AreRight-none nodes Or disjunctions no_disjunctions;
    }

pub AreKept-more : (now new : List Node) (kept : List (Question × ℕ)) (conjunctions disjunctions : List Slot) → Keeps now new → AreKept now kept conjunctions disjunctions → AreKept new kept conjunctions disjunctions
AreKept-more now new kept conjunctions disjunctions keeps are =
    record {
      recent = answers-more now new kept keeps are.recent;
      conjunctions = AreRight-more now new And conjunctions keeps are.conjunctions;
      disjunctions = AreRight-more now new Or disjunctions keeps are.disjunctions;
    }

-- one more answer
pub answers-noted : (nodes : List Node) (old new : List (Question × ℕ)) (operator : Operator) (p : Pair) (r : ℕ) → AreAnswers nodes old → IsAnswer nodes operator p r
    → ((e : Question × ℕ) → Contains new e → (e ≡ (record { operator = operator; pair = p }, r)) ⊎ Contains old e) → AreAnswers nodes new
answers-noted nodes old new operator p r are is each q t h = elim (each (q, t) h) [
  | inl e ↦ subst (λ (e : Question × ℕ). IsAnswer nodes e.0.operator e.0.pair e.1) (sym e) is
  | inr earlier ↦ are q t earlier
]

-- an answer that is found is true
pub answer-found : (nodes : List Node) (kept : List (Question × ℕ)) (operator : Operator) (p : Pair) (o : Option ℕ) → AreAnswers nodes kept
    → IfSome o (λ place. Contains kept (record { operator = operator; pair = p }, place)) → IfSome o (IsAnswer nodes operator p)
answer-found nodes kept operator p None are there = tt
answer-found nodes kept operator p (Some r) are there = are (record { operator = operator; pair = p }) r there

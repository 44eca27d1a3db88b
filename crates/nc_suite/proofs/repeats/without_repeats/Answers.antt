use Rattle.std.proofs.Common.{◌≡◌, ◌+◌, [], ◌∷◌, ◌++◌, map, drop, get_or, sym, ap, ◌∙◌, subst, arith, append_assoc, append-nil}
use Rattle.std.proofs.lemmas.List.{drop_more, drop_all, map-append}
use Rattle.nc_suite.specs.Repeats.{IsLeft, AreLeft}
use Rattle.nc_suite.proofs.repeats.without_repeats.Goals as goal

pub tests-preserved : goal.tests-preserved
tests-preserved c rest are =
    let tests = c.args.tests.now in
    let at = c.tests.nodes-index in
    let here = get_or tests at (record { ref_ptr = (0, 0); now = [] }) in
    let before = map (λ t. t.now) c.tests.left.items in
    let left = c.left_of-nodes.result in
    let pushed : map (λ t. t.now) c.push.new.self.items ≡ before ++ left.now ∷ []
    = ap (map (λ t. t.now)) c.in_ok-push.ensures.items ∙ map-append (λ t. t.now) c.tests.left.items (left ∷ []) in
    let is : IsLeft before here.now left.now = subst (λ ts. IsLeft (map (λ t. t.now) ts) here.now left.now) c.deref.ensures.value c.left_of-nodes.ensures in
    let step = c.tests.invariant (left.now ∷ rest)
    (subst (λ ts. AreLeft before (map (λ t. t.now) ts) (left.now ∷ rest)) (sym (drop_more tests at (record { ref_ptr = (0, 0); now = [] }) c.tests-test.true))
    (is, subst (λ bs. AreLeft bs (map (λ t. t.now) (drop (at + 1) tests)) rest) pushed are)) in
    subst (AreLeft [] (map (λ t. t.now) tests)) (sym (ap (λ bs. bs ++ rest) pushed ∙ append_assoc before (left.now ∷ []) rest)) step

pub returns : goal.returns
returns c =
    let tests = c.args.tests.now in
    let before = map (λ t. t.now) c.tests.left.items in
    subst (AreLeft [] (map (λ t. t.now) tests)) (append-nil before)
    (c.tests.invariant [] (subst (λ ts. AreLeft before (map (λ t. t.now) ts) []) (sym (drop_all c.tests.nodes-index tests (omega (arith, c.tests-test.false)))) tt))

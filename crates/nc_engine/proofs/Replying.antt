-- The reply to a test that was taken up, and a form of the marks that is told.
use Rattle.std.proofs.Common.{◌≡◌, ℕ, ◌<◌, List, [], ◌++◌, length, None, Some, refl, sym, ap, ◌∙◌, subst, append_assoc}
use Rattle.std.proofs.lemmas.List.{length-map}
use Rattle.std.proofs.lemmas.List.Quantifiers.{position-Some}
use Rattle.std.specs.Str.{bytes_eq}
use Rattle.nc_types.specs.Config.{ConfigView}
use Rattle.nc_types.specs.Network.{element_count, router_named}
use Rattle.nc_marks.specs.Marks.{AreMarks}
use Rattle.nc_rules.specs.Rules.{flow_of}
use Rattle.nc_rules.specs.Seen.{state_of}
use Rattle.nc_engine.specs.declared.work.Work.{Work}
use Rattle.nc_report.specs.Texts.{Sheet, report_by}
use Rattle.nc_engine.specs.Session.{accepted_of}
use Rattle.nc_report.specs.Views.{FileView}
use Rattle.nc_engine.specs.Marks.{IsFormOf, IsReport}
use Rattle.nc_engine.specs.Session.{live_in}
use Rattle.nc_engine.specs.Work.{IsWork, Appended, Replies, Forms, test_view, tests_of}
use Rattle.nc_engine.proofs.Reporting.{form-is}

-- the marks that are kept are those of the facts of the live tests
abbrev pub AreLive : Work → Type 0
AreLive w = AreMarks (flow_of (state_of w.rules)) (live_in (tests_of w)) (element_count (state_of w.rules).routers) w.marks.marks

-- a report on them, which stands behind some bytes
abbrev pub Reported : Work → List ℕ → List ℕ → Type 0
Reported w before after = Appended (IsReport (flow_of (state_of w.rules)) (live_in (tests_of w)) (state_of w.rules).routers w.listed) before after

pub reported : (w : Work) → IsWork w → AreLive w → (before after : List ℕ) → after ≡ before ++ report_by w.listed w.shown → Reported w before after
reported w is are before after text = record {
  reply = report_by w.listed w.shown;
  is_reply =
      subst (IsFormOf (flow_of (state_of w.rules)) (live_in (tests_of w)) (state_of w.rules).routers (report_by w.listed)) (sym (ap (report_by w.listed) is.shown))
      (form-is (flow_of (state_of w.rules)) (live_in (tests_of w)) (state_of w.rules).routers w.marks.marks are (report_by w.listed));
  text = text;
}

pub replies : (w : Work) → IsWork w → (before mid after : List ℕ) (number facts : ℕ) → number ≡ length w.tests.items → facts ≡ length w.graph.facts
    → mid ≡ before ++ accepted_of number facts → Reported w mid after → Replies w before after
replies w is before mid after number facts counted asked first rest = record {
  reply = accepted_of (length (tests_of w)) (length w.graph.facts) ++ rest.reply;
  is_reply = record {
    asked = w.graph.facts;
    closure = is.marked.closure;
    reported = record { report = rest.reply; is_report = rest.is_reply; text = refl };
  };
  text = rest.text ∙ ap (λ (l : List ℕ). l ++ rest.reply) first ∙ append_assoc before (accepted_of number facts) rest.reply
      ∙ ap (λ (l : List ℕ). before ++ (l ++ rest.reply)) texts;
}
  where
    texts : accepted_of number facts ≡ accepted_of (length (tests_of w)) (length w.graph.facts)
    texts = ap (λ (n : ℕ). accepted_of n facts) (counted ∙ sym (length-map w.tests.items test_view)) ∙ ap (λ (n : ℕ). accepted_of (length (tests_of w)) n) asked

-- a form of the marks
pub forms : (w : Work) → IsWork w → AreMarks (flow_of (state_of w.rules)) (live_in (tests_of w)) (element_count (state_of w.rules).routers) w.marks.marks
    → (files : List FileView) (form : List Sheet → List ℕ) (before after : List ℕ) → after ≡ before ++ form w.shown → Forms files w form before after
forms w is are files form before after text = record {
  reply = form w.shown;
  answer = (
    subst (IsFormOf (flow_of (state_of w.rules)) (live_in (tests_of w)) (state_of w.rules).routers form) (sym (ap form is.shown))
        (form-is (flow_of (state_of w.rules)) (live_in (tests_of w)) (state_of w.rules).routers w.marks.marks are form),
    refl,
  );
  text = text;
}

-- a router that has a name is there
pub named-within : (routers : List ConfigView) (name : List ℕ) (router : ℕ) → router_named routers name ≡ Some router → router < length routers
named-within routers name router at = (position-Some (λ c. bytes_eq name c.name) routers router no_router at).0
  where
    no_router : ConfigView
    no_router = record { name = []; name_line = 0; line_count = 0; elements = []; interfaces = []; statics = []; process = None; clauses = []; lists = []; community_lists = []; filters = []; groups = [] }

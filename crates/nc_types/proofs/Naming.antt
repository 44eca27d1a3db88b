-- The table of names.
use Rattle.std.proofs.Common.{◌≡◌, ℕ, ◌+◌, Bool, true, false, cond, List, [], ◌∷◌, map, Option, Some, None, refl, sym, ap, subst, ◌∙◌}
use Rattle.std.specs.BTreeMap.{BTreeMap, UpdatesBy}
use Rattle.std.specs.Cmp.{eq_by_cmp_equiv}
use Rattle.std.specs.Cmp.Lexicographic.{slice_cmp, nat_list_cmp_total, nat_list_eq_equiv}
use Rattle.std.specs.Global.{Vec}
use Rattle.std.specs.List.{position_from}
use Rattle.std.specs.Map.{KeepsOthers}
use Rattle.std.specs.Option.{option_map, option_or}
use Rattle.std.specs.Ordering.{nat_cmp, is_eq}
use Rattle.std.specs.Str.{bytes_eq}
use Rattle.std.proofs.lemmas.Map.Text.{is_eq-slice_cmp}
use Rattle.std.proofs.lemmas.Slice.Eq.{bytes_eq-Decides}
use Rattle.std.proofs.lemmas.Iterator.Adapters.{position_from-zero}
use Rattle.nc_types.specs.declared.config.RouterId.{RouterId}
use Rattle.nc_types.specs.declared.config.RouterConfig.{RouterConfig}
use Rattle.nc_types.specs.Config.{ConfigView, config_view}
use Rattle.nc_types.specs.Network.{router_named}
use Rattle.nc_types.specs.Tables.{named_by}
use Rattle.nc_types.proofs.Options.{or_none}

-- the router of a name among these, the first of them having this number
abbrev pub named_from : ℕ → List RouterConfig → List ℕ → Option RouterId
named_from router [] name = None
named_from router (c ∷ cs) name = option_or (cond (bytes_eq name c.name) (Some (record { 0 = router })) None) (named_from (router + 1) cs name)

by_position : (router : ℕ) (cs : List RouterConfig) (name : List ℕ) → option_map (λ (r : RouterId). r.0) (named_from router cs name) ≡ position_from (λ (c : ConfigView). bytes_eq name c.name) router (map config_view cs)
by_position router [] name = refl
by_position router (c ∷ cs) name = by_test (bytes_eq name c.name) (by_position (router + 1) cs name)
  where
    by_test : (b : Bool) → option_map (λ (r : RouterId). r.0) (named_from (router + 1) cs name) ≡ position_from (λ (c : ConfigView). bytes_eq name c.name) (router + 1) (map config_view cs)
        → option_map (λ (r : RouterId). r.0) (option_or (cond b (Some (record { 0 = router })) None) (named_from (router + 1) cs name))
        ≡ cond b (Some router) (position_from (λ (c : ConfigView). bytes_eq name c.name) (router + 1) (map config_view cs))
    by_test true rest = refl
    by_test false rest = rest

pub names_are : (cs : List RouterConfig) (name : List ℕ) → option_map (λ (r : RouterId). r.0) (named_from 0 cs name) ≡ router_named (map config_view cs) name
names_are cs name = by_position 0 cs name ∙ sym (position_from-zero (λ (c : ConfigView). bytes_eq name c.name) (map config_view cs))

-- ---- a name more

apart : (bs cs ks : List ℕ) → bytes_eq bs cs ≡ false → is_eq (slice_cmp nat_cmp bs ks) ≡ true → is_eq (slice_cmp nat_cmp cs ks) ≡ false
apart bs cs ks other same =
    let equal : bytes_eq bs ks ≡ true = sym (is_eq-slice_cmp bs ks) ∙ same in
    is_eq-slice_cmp cs ks ∙ nat_list_eq_equiv.symm cs ks ∙ sym (nat_list_eq_equiv.congr bs ks cs equal) ∙ other

module _ (bs : List ℕ) (m n : BTreeMap (Vec ℕ) RouterId) (w : Option RouterId) where
  other_names : KeepsOthers (λ (x y : Vec ℕ). is_eq (slice_cmp nat_cmp x.items y.items)) (λ (k : Vec ℕ). is_eq (slice_cmp nat_cmp bs k.items)) m.entries n.entries → (cs : List ℕ) → bytes_eq bs cs ≡ false → named_by n cs ≡ named_by m cs
  unfolding KeepsOthers
  other_names keeps cs other = keeps (λ (k : Vec ℕ). is_eq (slice_cmp nat_cmp cs k.items)) (λ x y. (eq_by_cmp_equiv nat_list_cmp_total).congr cs x.items y.items) (λ k. apart bs cs k.items other)

  pub updated : UpdatesBy (λ (x y : Vec ℕ). slice_cmp nat_cmp x.items y.items) (λ (k : Vec ℕ). slice_cmp nat_cmp bs k.items) m n w → (cs : List ℕ) → named_by n cs ≡ cond (bytes_eq bs cs) w (named_by m cs)
  updated h cs = by_test (bytes_eq bs cs) refl
    where
      by_test : (b : Bool) → bytes_eq bs cs ≡ b → named_by n cs ≡ cond (bytes_eq bs cs) w (named_by m cs)
      by_test true e = rw e (subst (λ (l : List ℕ). named_by n l ≡ w) ((bytes_eq-Decides bs cs).0 e) h.1)
      by_test false e = rw e (other_names h.3 cs e)

-- a name that no router had gets one
pub claimed_name : (bs : List ℕ) (m n : BTreeMap (Vec ℕ) RouterId) (router : RouterId) → UpdatesBy (λ (x y : Vec ℕ). slice_cmp nat_cmp x.items y.items) (λ (k : Vec ℕ). slice_cmp nat_cmp bs k.items) m n (Some router)
    → named_by m bs ≡ None → (cs : List ℕ) → named_by n cs ≡ option_or (named_by m cs) (cond (bytes_eq cs bs) (Some router) None)
claimed_name bs m n router h none cs =
    updated bs m n (Some router) h cs ∙ by_test (bytes_eq bs cs) refl ∙ ap (λ (b : Bool). option_or (named_by m cs) (cond b (Some router) None)) (nat_list_eq_equiv.symm bs cs)
  where
    by_test : (b : Bool) → bytes_eq bs cs ≡ b → cond (bytes_eq bs cs) (Some router) (named_by m cs) ≡ option_or (named_by m cs) (cond (bytes_eq bs cs) (Some router) None)
    by_test true e = let here : named_by m cs ≡ None = subst (λ (l : List ℕ). named_by m l ≡ None) ((bytes_eq-Decides bs cs).0 e) none in rw (e, here) refl
    by_test false e = rw e (sym (or_none (named_by m cs)))

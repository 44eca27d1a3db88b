use Rattle.std.proofs.Common.{◌++◌, ◌∙◌, List, ℕ, take, take-add, sym, ap, subst, arith}
use Rattle.std.specs.Io.KnownBytes.{Appends}
use Rattle.std.proofs.KnownBytes.{Appends-trans}
use Rattle.nc_session.proofs.writing.write_all.Goals as goal

pub writing-preserved : goal.writing-preserved
writing-preserved g c =
    let bytes : List ℕ = c.args.bytes.now in
    let at : ℕ = c.writing.at in
    let count : ℕ = c.in_ok-at.field-0 in
    let both = Appends-trans (g.K.Sink.written c.args.output.now) (g.K.Sink.written c.writing.output) (g.K.Sink.written c.write.new.self) (take at bytes) (take count c.split_at.result.1.now) c.writing.invariant.written c.in_ok-at.ensures.bytes in
    record {
      faults = c.in_ok-at.ensures.cause ∙ c.writing.invariant.faults;
      written = subst (Appends (g.K.Sink.written c.args.output.now) (g.K.Sink.written c.write.new.self))
          (ap (λ (l : List ℕ). take at bytes ++ take count l) c.split_at.ensures.back ∙ sym (take-add at count bytes)) both;
      within = omega (arith, c.in_ok-at.ensures.within, c.split_at.ensures.back_len);
    }

use Rattle.nc_engine.proofs.work.Work.refuse.Goals as goal

pub returns-clause-work : goal.returns-clause-work
returns-clause-work c =
    let was = c.requires.work in
    record {
      state = was.state;
      marked = was.marked;
      nodes = was.nodes;
      drawn = was.drawn;
      answered = was.answered;
      room = was.room;
      shown = was.shown;
      few = was.few;
      dead = was.dead;
      crowded = λ place raised. c.requires.crowded;
    }

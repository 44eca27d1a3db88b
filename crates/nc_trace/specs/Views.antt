-- What the definitions of forwarding see of a way.
use Rattle.nc_tables.specs.Forwarding as defined
use Rattle.nc_trace.specs.declared.alternative.Outcome.{Outcome}
use Rattle.nc_trace.specs.declared.alternative.Outcome.TheVariants.{Deliver, Go, Lost}
use Rattle.nc_trace.specs.declared.alternative.Alternative.{Alternative}

abbrev pub outcome_view : Outcome → defined.Outcome
outcome_view Deliver = defined.Deliver
outcome_view (Go router iface) = defined.Go (record { router = router.0; place = iface.0 })
outcome_view Lost = defined.Lost

abbrev pub alternative_view : Alternative → defined.Alternative
alternative_view way = record { main = way.main; base = way.base; outcome = outcome_view way.outcome }

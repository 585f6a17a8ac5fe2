-- What contracts see of an end of any state.
use Rattle.pw_signalling.specs.declared.pw_end.PwEnd.{PwEnd}
use Rattle.pw_signalling.specs.declared.pw_end.PwEnd.TheVariants as state
use Rattle.pw_signalling.specs.End.{EndState, advertised_end, idle_end, withdrawing_end}

abbrev pub end_of : PwEnd → EndState
end_of (state.Idle e) = idle_end e
end_of (state.Advertised e) = advertised_end e
end_of (state.Withdrawing e) = withdrawing_end e

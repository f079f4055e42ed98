-- The stations of the code, with the parts lent to them, as the stations that the definitions speak of.
use Rattle.std.specs.Prelude.{◌≡◌, List}
use Rattle.machine.specs.Stations.{Station, idle, running, shut, state_of}
use Rattle.machine.specs.Steps.{Setup, Contents}
use Rattle.machine.specs.declared.calls.State.{State}
use Rattle.machine.specs.declared.parts.Operation.{Operation}
use Rattle.machine.specs.declared.parts.Sizes.{Sizes}
use Rattle.steps.specs.Operations.{round}
use Rattle.steps.specs.Windows.{kept}
use Rattle.steps.specs.declared.window.Window.{Window}
use Rattle.station.specs.declared.any.Station.{Station as StationCode}
use Rattle.station.specs.declared.any.Station.TheVariants as state
use Rattle.station.specs.declared.idle.Idle.{Idle}
use Rattle.station.specs.declared.running.Running.{Running}
use Rattle.station.specs.declared.shut.Shut.{Shut}

module _ {L : Type 0} where
  -- a station's program and the lengths of its parts
  abbrev pub made_as : List (Operation L) → Sizes → Setup L
  made_as program sizes = record { program = program; sizes = sizes }

  abbrev pub idle_with : Idle L → Contents L → Station L
  idle_with st parts = idle (kept st.window parts)

  -- A running station has its registers besides, and of the stack the entries in use.
  abbrev pub running_with : Running L → Contents L → Station L
  running_with st parts = running (round st.registers parts)

  abbrev pub shut_with : Shut L → Contents L → Station L
  shut_with st parts = shut st.stop st.place (kept st.window parts)

  abbrev pub station_with : StationCode L → Contents L → Station L
  station_with (state.Idle st) parts = idle_with st parts
  station_with (state.Running st) parts = running_with st parts
  station_with (state.Shut st) parts = shut_with st parts

  -- the state that a station is in, whatever its parts hold
  abbrev pub IsIn : StationCode L → State → Type 0
  IsIn st told = (parts : Contents L) → told ≡ state_of (station_with st parts)

  -- how long the parts were when the station was made
  abbrev pub made_sizes : StationCode L → Sizes
  made_sizes (state.Idle st) = st.sizes
  made_sizes (state.Running st) = st.sizes
  made_sizes (state.Shut st) = st.sizes

  -- what is in use of the log
  abbrev pub window_of : StationCode L → Window
  window_of (state.Idle st) = st.window
  window_of (state.Running st) = st.registers.window
  window_of (state.Shut st) = st.window

-- What futures that are polled together give.
use Rattle.std.specs.Prelude.{◌≡◌, ◌<◌, ◌≤◌, ℕ, ⊤, List, [], All, length, map, vec_len, vec_capacity, slice_index_or, Option, Some, None}
use Rattle.std.specs.declared.vec.Vec.{Vec}
use Rattle.std.specs.declared.alloc.Global.{Global}
use Rattle.gather.specs.declared.part.Part.{Part}
use Rattle.gather.specs.declared.part.Part.TheVariants.{Waiting, Done}

-- as many outputs as parts, each at the place of its part, which may give it
pub record GivesEach {F A : Type 0} (gives : F → A → Type 0) (parts : List F) (outs : List A) : Type 0 where
  pub count : length outs ≡ length parts
  pub each : (k : ℕ) (d : F) (e : A) → k < length parts → gives (slice_index_or parts k d) (slice_index_or outs k e)

module _ {F A : Type 0} where
  -- it is done, or its future may be polled
  abbrev pub IsLive : (F → Type 0) → Part F A → Type 0
  IsLive can_poll (Waiting f) = can_poll f
  IsLive can_poll (Done x) = ⊤

  abbrev pub IsDone : Part F A → Type 0
  IsDone (Done x) = ⊤
  IsDone (Waiting f) = ⊥

  abbrev pub IsWaiting : Part F A → Type 0
  IsWaiting (Done x) = ⊥
  IsWaiting (Waiting f) = ⊤

  -- x may come from its future, or is the output that it holds
  abbrev pub MayGive : (F → A → Type 0) → Part F A → A → Type 0
  MayGive gives (Waiting f) x = gives f x
  MayGive gives (Done y) x = x ≡ y

  -- its future waits for source s
  abbrev pub Waits : (F → ℕ → Type 0) → Part F A → ℕ → Type 0
  Waits needs (Waiting f) s = needs f s
  Waits needs (Done x) s = ⊥

  -- a part waits for source s
  abbrev pub AnyWaits : (F → ℕ → Type 0) → List (Part F A) → ℕ → Type 0
  AnyWaits needs parts s = (k : ℕ) × (d : Part F A) × (k < length parts) × Waits needs (slice_index_or parts k d) s

  -- a part isn't done
  abbrev pub SomeWaits : List (Part F A) → Type 0
  SomeWaits parts = (k : ℕ) × (k < length parts) × ((d : Part F A) → IsWaiting (slice_index_or parts k d))

-- the room for the outputs is there
abbrev pub HasRoom : {P A : Type 0} → Vec P Global → Vec A Global → Type 0
HasRoom parts room = (room.items ≡ []) × (vec_len parts ≤ vec_capacity room)

-- the parts and the room for their outputs, until these were given
abbrev pub Inner : Type 0 → Type 0 → Type 0
Inner F A = Option (Vec (Part F A) Global × Vec A Global)

module _ {F A : Type 0} where
  -- it waits for each of these futures, and has the room for their outputs
  abbrev pub Awaits : Inner F A → List F → Type 0
  Awaits None futures = ⊥
  Awaits (Some i) futures = (i.0.items ≡ map Waiting futures) × HasRoom i.0 i.1

  -- it isn't over, and each part that waits may be polled
  abbrev pub CanGather : (F → Type 0) → Inner F A → Type 0
  CanGather can_poll None = ⊥
  CanGather can_poll (Some i) = HasRoom i.0 i.1 × All (IsLive can_poll) i.0.items

  -- a part waits for source s
  abbrev pub GatherNeeds : (F → ℕ → Type 0) → Inner F A → ℕ → Type 0
  GatherNeeds needs None s = ⊥
  GatherNeeds needs (Some i) s = AnyWaits needs i.0.items s

  -- it may give these outputs, each at the place of its part
  abbrev pub Gathers : (F → A → Type 0) → Inner F A → List A → Type 0
  Gathers gives None outs = ⊥
  Gathers gives (Some i) outs = GivesEach (MayGive gives) i.0.items outs

  -- a part of it isn't done
  abbrev pub GatherWaits : Inner F A → Type 0
  GatherWaits None = ⊥
  GatherWaits (Some i) = SomeWaits i.0.items

-- the ends of the traces
pub mod Ends
pub mod Rolling
-- the queue
pub mod Lining
pub mod IdBytes
pub mod Calling
-- the list
pub mod EntryOrder
pub mod TheIds
pub mod CalledOut
pub mod Orders
pub mod AsEvents
-- the call
pub mod Figures
pub mod Outcome
pub mod Worked
